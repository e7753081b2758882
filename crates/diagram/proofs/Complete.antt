-- Every reading is the one that the decoder answers with, or one of its two.
use mathlib.Core.Path.{◌≡◌, refl, sym, ap, ◌∙◌}
use mathlib.Core.List.{List, [], ◌∷◌, ◌++◌, append_assoc}
use Prim.Native.Nat.{ℕ, zero, suc, pred}
use native.Mathlib.Omega.{arith}
use lib.ListN.{length}
use Rattle.octets.specs.Bits.{Bit, O, I, value}
use Rattle.state.specs.declared.Mixed.{Mixed}
use Rattle.state.specs.declared.Mixed.TheVariants.{WB, BW}
use Rattle.state.specs.declared.Solid.{Solid}
use Rattle.state.specs.declared.Solid.TheVariants.{WW, BB}
use Rattle.state.specs.declared.State.TheVariants.{Solid as solid, Mixed as mixed}
use Rattle.diagram.specs.declared.Context.{Context}
use Rattle.field_length.specs.declared.Nth.{Nth}
use Rattle.field_length.specs.declared.Nth.TheVariants.{First, Later}
use Rattle.diagram.specs.Diagram.{other, length_of, after_move, longer, closed, full, Place, at, run, out, Step, move, word, BW·BW, BW·WB, BW·WW, BW·BB, WB·WB, WB·BW, WB·WW, WB·BB, to_solid, to_mixed, moves, leaves, goes_on, closes, Reading, done, then, ValidContext}
use Rattle.diagram.specs.Decoder.{stopped, opened, Answer, refused, read, onto, DecoderState, bw, bw0, bw010, wb, wb1, wb101, afterClosing, afterOne, part, begin, shut, bit, finish, follow, decode_from}
use Rattle.diagram.proofs.Contexts.{valid_length, valid_after_move, valid_longer, valid_closed}

-- These steps, to this place and this context, are those of the answer; or, where that ends open, they are with one step more.
abbrev pub Matches : Answer → List Step → Place → Context → Type 0
Matches (refused k) ss q m = ⊥
Matches (read xs (stopped r) n) ss q m = (ss ≡ xs) × (q ≡ r) × (m ≡ n)
Matches (read xs (opened s) n) ss q m = (k : Mixed) × (ss ≡ xs ++ move (solid s) (mixed k) ∷ []) × (q ≡ at k) × (m ≡ n)

match_onto : (s : Step) (a : Answer) (ss : List Step) (q : Place) (m : Context) → Matches a ss q m → Matches (onto s a) (s ∷ ss) q m
unfolding onto
match_onto s (refused k) ss q m h = h
match_onto s (read xs (stopped r) n) ss q m h = (ap (λ (y : List Step). s ∷ y) h.0, h.1, h.2)
match_onto s (read xs (opened t) n) ss q m h = (h.0, ap (λ (y : List Step). s ∷ y) h.1, h.2, h.3)

-- Where a reading stands at a place in a context, where and in which context the decoder can stand, and which step it has not noted yet.
pub data Hold : Place → Context → DecoderState → Context → List Step → Type 0 where
  at_bw : {c : Context} → Hold (at BW) c bw c []
  at_bw0 : {c : Context} → Hold (at BW) (after_move c) bw0 c (move (mixed BW) (mixed BW) ∷ [])
  at_wb101 : {c : Context} → Hold (at BW) (after_move c) wb101 c (move (mixed WB) (mixed BW) ∷ [])
  at_wb : {c : Context} → Hold (at WB) c wb c []
  at_wb1 : {c : Context} → Hold (at WB) (after_move c) wb1 c (move (mixed WB) (mixed WB) ∷ [])
  at_bw010 : {c : Context} → Hold (at WB) (after_move c) bw010 c (move (mixed BW) (mixed WB) ∷ [])
  at_turn : {c : Context} {s : Solid} {m : Mixed} → Hold (at m) (after_move c) (afterOne s) c (move (solid s) (mixed m) ∷ [])
  at_rest : {c : Context} {s : Solid} → Hold (out s) c (afterClosing s) c []
  at_run : {c : Context} {k : Nth} {s : Solid} → Hold (run k s) c (begin k s c) c []

after_BW : {c x : Context} {d : DecoderState} {owed : List Step} → Hold (at BW) c d x owed → (bs : List Bit) (xs : List Step) (q : Place) (m : Context) →
    Matches (decode_from bs bw0 c) xs q m → Matches (decode_from (O ∷ bs) d x) (owed ++ xs) q m
unfolding decode_from follow bit finish shut onto begin
after_BW at_bw bs xs q m h = h
after_BW {c} at_bw0 bs xs q m h = match_onto (move (mixed BW) (mixed BW)) (decode_from bs bw0 c) xs q m h
after_BW {c} at_wb101 bs xs q m h = match_onto (move (mixed WB) (mixed BW)) (decode_from bs bw0 c) xs q m h
after_BW {c} (at_turn {s = s}) bs xs q m h = match_onto (move (solid s) (mixed BW)) (decode_from bs bw0 c) xs q m h

after_WB : {c x : Context} {d : DecoderState} {owed : List Step} → Hold (at WB) c d x owed → (bs : List Bit) (xs : List Step) (q : Place) (m : Context) →
    Matches (decode_from bs wb1 c) xs q m → Matches (decode_from (I ∷ bs) d x) (owed ++ xs) q m
unfolding decode_from follow bit finish shut onto begin
after_WB at_wb bs xs q m h = h
after_WB {c} at_wb1 bs xs q m h = match_onto (move (mixed WB) (mixed WB)) (decode_from bs wb1 c) xs q m h
after_WB {c} at_bw010 bs xs q m h = match_onto (move (mixed BW) (mixed WB)) (decode_from bs wb1 c) xs q m h
after_WB {c} (at_turn {s = s}) bs xs q m h = match_onto (move (solid s) (mixed WB)) (decode_from bs wb1 c) xs q m h

at_end : {p : Place} {c x : Context} {d : DecoderState} {owed : List Step} → Hold p c d x owed → Matches (finish d x) (owed ++ []) p c
unfolding finish begin
at_end at_bw = (refl, refl, refl)
at_end at_bw0 = (refl, refl, refl)
at_end at_wb101 = (refl, refl, refl)
at_end at_wb = (refl, refl, refl)
at_end at_wb1 = (refl, refl, refl)
at_end at_bw010 = (refl, refl, refl)
at_end {p = at m} at_turn = (m, refl, refl, refl)
at_end at_rest = (refl, refl, refl)
at_end at_run = (refl, refl, refl)

-- A whole word is read.
pub whole : (w : List Bit) (n : ℕ) → length w ≡ suc n → (u bs : List Bit) (k : Nth) (s : Solid) (c : Context) →
    decode_from (w ++ bs) (part k s u n) c ≡ follow (shut (full (length_of s c.lengths) (value (u ++ w))) k s (u ++ w) c) c (λ e f. decode_from bs e f)
unfolding decode_from follow bit finish shut onto begin
whole [] n e u bs k s c = absurd (omega arith)
whole (b ∷ []) zero e u bs k s c = refl
whole (b ∷ e₁ ∷ w) zero e u bs k s c = absurd (omega arith)
whole (b ∷ w) (suc n) e u bs k s c = rw (append_assoc u (b ∷ []) w) at (whole w n (omega arith) (u ++ b ∷ []) bs k s c)

pub complete_from : {p q : Place} {c m : Context} {ss : List Step} {bs : List Bit} → Reading p c ss bs q m → ValidContext c →
    {d : DecoderState} {x : Context} {owed : List Step} → Hold p c d x owed → Matches (decode_from bs d x) (owed ++ ss) q m
unfolding decode_from follow bit finish shut onto begin
complete_from done v h = at_end h
complete_from {q} {c} {m} (then {ss = ss} {bs = bs} (moves BW·BW) r) v h =
    after_BW h (bs) (move (mixed BW) (mixed BW) ∷ ss) q m (complete_from r (valid_after_move c v) at_bw0)
complete_from {q} {c} {m} (then {ss = ss} {bs = bs} (moves BW·WB) r) v h =
    after_BW h (I ∷ O ∷ bs) (move (mixed BW) (mixed WB) ∷ ss) q m (complete_from r (valid_after_move c v) at_bw010)
complete_from {q} {c} {m} (then {ss = ss} {bs = bs} (moves BW·WW) r) v h =
    after_BW h (I ∷ O ∷ O ∷ bs) (move (mixed BW) (solid WW) ∷ ss) q m (match_onto (move (mixed BW) (solid WW)) (decode_from bs (begin First WW (after_move c)) (after_move c)) ss q m (complete_from r (valid_after_move c v) at_run))
complete_from {q} {c} {m} (then {ss = ss} {bs = bs} (moves BW·BB) r) v h =
    after_BW h (I ∷ I ∷ I ∷ bs) (move (mixed BW) (solid BB) ∷ ss) q m (match_onto (move (mixed BW) (solid BB)) (decode_from bs (begin First BB (after_move c)) (after_move c)) ss q m (complete_from r (valid_after_move c v) at_run))
complete_from {q} {c} {m} (then {ss = ss} {bs = bs} (moves WB·WB) r) v h =
    after_WB h (bs) (move (mixed WB) (mixed WB) ∷ ss) q m (complete_from r (valid_after_move c v) at_wb1)
complete_from {q} {c} {m} (then {ss = ss} {bs = bs} (moves WB·BW) r) v h =
    after_WB h (O ∷ I ∷ bs) (move (mixed WB) (mixed BW) ∷ ss) q m (complete_from r (valid_after_move c v) at_wb101)
complete_from {q} {c} {m} (then {ss = ss} {bs = bs} (moves WB·WW) r) v h =
    after_WB h (O ∷ O ∷ O ∷ bs) (move (mixed WB) (solid WW) ∷ ss) q m (match_onto (move (mixed WB) (solid WW)) (decode_from bs (begin First WW (after_move c)) (after_move c)) ss q m (complete_from r (valid_after_move c v) at_run))
complete_from {q} {c} {m} (then {ss = ss} {bs = bs} (moves WB·BB) r) v h =
    after_WB h (O ∷ I ∷ I ∷ bs) (move (mixed WB) (solid BB) ∷ ss) q m (match_onto (move (mixed WB) (solid BB)) (decode_from bs (begin First BB (after_move c)) (after_move c)) ss q m (complete_from r (valid_after_move c v) at_run))
complete_from {q} {c} {m} (then {ss = ss} {bs = bs} (leaves (to_solid {s = s})) r) v at_rest =
    match_onto (move (solid s) (solid (other s))) (decode_from bs (begin First (other s) (after_move c)) (after_move c)) ss q m (complete_from r (valid_after_move c v) at_run)
complete_from {c} (then (leaves to_mixed) r) v at_rest = complete_from r (valid_after_move c v) at_turn
complete_from {q} {c} {m} (then {ss = ss} {bs = bs} (goes_on {k = k} {s = s} {w = w} e t) r) v at_run =
    rw (whole w (pred (length_of s c.lengths)) (e ∙ sym (valid_length s c v)) [] bs k s c, t)
    (match_onto (word s w) (decode_from bs (begin Later s (longer s (value w) c)) (longer s (value w) c)) ss q m (complete_from r (valid_longer s (value w) c v) at_run))
complete_from {q} {c} {m} (then {ss = ss} {bs = bs} (closes {k = k} {s = s} {w = w} e t) r) v at_run =
    rw (whole w (pred (length_of s c.lengths)) (e ∙ sym (valid_length s c v)) [] bs k s c, t)
    (match_onto (word s w) (decode_from bs (afterClosing s) (closed k s (value w) c)) ss q m
    (complete_from r (valid_closed k s (value w) c v) at_rest))
