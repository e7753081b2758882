-- A reading of at most 512 bits lays at most 9271 columns; from a solid state of length 7, readings of 511 and of 512 bits lay as many.
-- No step of k bits lays more than 127 * k / 7 columns. Seven times what is missing is its slack: 0 for an all-ones word of 7 bits, at least 7
-- for a closing one, 120 for a move of one bit, at least 233 for any other step. So 511 bits lay at most 73 * 127 columns; 512 is no
-- multiple of 7, which costs a slack of at least 121, and so the last bit gains nothing.
use mathlib.Core.Path.{◌≡◌, refl, sym, ap, subst}
use mathlib.Core.List.{List, [], ◌∷◌, ◌++◌}
use Prim.Native.Nat.{ℕ, zero, suc, ◌+◌, ◌-◌, ◌*◌, ◌%◌, ◌^◌, ◌≤◌, ◌<◌, min}
use native.Mathlib.Nat.{zero-add, add-mod_left}
use native.Mathlib.Omega.{arith}
use borrow.Author.Tests.{eqb-false}
use lib.ListN.{length, replicate, length-append, length-replicate}
use Rattle.octets.specs.Bits.{Bit, O, I, value}
use Rattle.octets.proofs.Fields.{value_lt}
use Rattle.state.specs.declared.Mixed.TheVariants.{WB}
use Rattle.state.specs.declared.Solid.{Solid}
use Rattle.state.specs.declared.Solid.TheVariants.{WW, BB}
use Rattle.state.specs.declared.State.{State}
use Rattle.state.specs.declared.State.TheVariants.{Solid as solid, Mixed as mixed}
use Rattle.diagram.specs.declared.Context.{Context}
use Rattle.diagram.specs.declared.Start.{Start}
use Rattle.field_length.specs.declared.Nth.{Nth}
use Rattle.field_length.specs.declared.Nth.TheVariants.{First, Later}
use Rattle.field_length.specs.FieldLength.{length_after_ones}
use Rattle.diagram.specs.Diagram.{length_of, longer, full, Place, at, run, out, enter, Step, move, word, lays, columns, BW·BW, BW·WB, BW·WW, BW·BB, WB·WB, WB·BW, WB·WW, WB·BB, to_solid, to_mixed, Allowed, moves, leaves, goes_on, closes, Reading, ReadingFrom, done, then, ValidContext}
use Rattle.diagram.specs.Decoder.{Stop, stopped, opened, Answer, read, decode}
use Rattle.diagram.specs.Demand3.{Attained, attained, MostReached}
use Rattle.diagram.proofs.Sound.{Good}
use Rattle.diagram.proofs.Demand.{sound}
use Rattle.diagram.proofs.Contexts.{length_within, valid_after_move, valid_longer, valid_closed}

-- the least slack of n bits read from a place
abbrev slack : Place → ℕ → ℕ
slack (at m) n = 120 * min 2 n
slack (out s) n = 120 * min 1 n
slack (run k s) n = 121 * min 1 (n % 7)

-- a word lays as many columns as its value
pub length_word : (s : Solid) (w : List Bit) → length (lays (word s w)) ≡ value w
unfolding lays
length_word s w = length-replicate {0} {A = State} (value w) (solid s)

slack_none : (p : Place) → slack p 0 ≡ 0
slack_none (at m) = refl
slack_none (out s) = refl
slack_none (run k s) = refl

-- a word of k bits and of value v, with n bits after it
word_slack : (k v n : ℕ) → 2 ≤ k → k ≤ 7 → v < 2 ^ k → 7 * v + 121 * min 1 ((k + n) % 7) ≤ 127 * k + 121 * min 1 (n % 7)
word_slack zero v n g h c = omega arith
word_slack (suc zero) v n g h c = omega arith
word_slack (suc (suc zero)) v n g h c = omega arith
word_slack (suc (suc (suc zero))) v n g h c = omega arith
word_slack (suc (suc (suc (suc zero)))) v n g h c = omega arith
word_slack (suc (suc (suc (suc (suc zero))))) v n g h c = omega arith
word_slack (suc (suc (suc (suc (suc (suc zero)))))) v n g h c = omega arith
word_slack (suc (suc (suc (suc (suc (suc (suc zero))))))) v n g h c = omega (arith, add-mod_left 7 n)
word_slack (suc (suc (suc (suc (suc (suc (suc (suc k)))))))) v n g h c = omega arith

-- the context stays valid
pub stays : {p q : Place} {c m : Context} {s : Step} {w : List Bit} → Allowed p c s w q m → ValidContext c → ValidContext m
stays {c} (moves a) v = valid_after_move c v
stays {c} (leaves a) v = valid_after_move c v
stays {c} (goes_on {s = s} {w = w} e t) v = valid_longer s (value w) c v
stays {c} (closes {k = k} {s = s} {w = w} e t) v = valid_closed k s (value w) c v

-- with the slack of the n bits after it, a step has that of its place
step_slack : {p q : Place} {c m : Context} {s : Step} {w : List Bit} → Allowed p c s w q m → ValidContext c → (n : ℕ) →
    7 * length (lays s) + slack p (length w + n) ≤ 127 * length w + slack q n
unfolding lays full
step_slack (moves BW·BW) v n = omega arith
step_slack (moves BW·WB) v n = omega arith
step_slack (moves BW·WW) v n = omega arith
step_slack (moves BW·BB) v n = omega arith
step_slack (moves WB·WB) v n = omega arith
step_slack (moves WB·BW) v n = omega arith
step_slack (moves WB·WW) v n = omega arith
step_slack (moves WB·BB) v n = omega arith
step_slack (leaves to_solid) v n = omega arith
step_slack (leaves to_mixed) v n = omega arith
step_slack {c} (goes_on {s = s} {w = w} e t) v n =
    let b = length_within s c v in
    rw (length_word s w, e) (word_slack (length_of s c.lengths) (value w) n b.0 b.1 (rw e at (value_lt w)))
step_slack {c} (closes {s = s} {w = w} e t) v n =
    let b = length_within s c v in
    let u : value w < 2 ^ length_of s c.lengths = rw e at (value_lt w) in
    let f = word_slack (length_of s c.lengths) (suc (value w)) n b.0 b.1 (omega (arith, eqb-false (value w) (2 ^ length_of s c.lengths - 1) t)) in
    rw (length_word s w, e) (omega arith)

reading_slack : {p q : Place} {c m : Context} {ss : List Step} {bs : List Bit} → Reading p c ss bs q m → ValidContext c →
    7 * length (columns ss) + slack p (length bs) ≤ 127 * length bs
unfolding columns
reading_slack {p} done v = omega (arith, slack_none p)
reading_slack (then {s = s} {ss = ss} {w = w} {bs = bs} a r) v =
    rw (length-append w bs) (omega (arith, length-append (lays s) (columns ss), step_slack a v (length bs), reading_slack r (stays a v)))

-- No reading lays more.
pub most : (a : Start) (bs : List Bit) → ValidContext a.context → length bs ≤ 512 → {ss : List Step} {q : Place} {m : Context} →
    ReadingFrom a ss bs q m → length (columns ss) ≤ 9271
most a bs v h {ss} r = go a.state (reading_slack r v)
  where
    go : (s : State) → 7 * length (columns ss) + slack (enter s) (length bs) ≤ 127 * length bs → length (columns ss) ≤ 9271
    go (mixed k) f = omega arith
    go (solid s) f = omega arith

more : (ss : List Step) (x : Step) → length (columns ss) ≤ length (columns (ss ++ x ∷ []))
unfolding columns
more [] x = omega arith
more (y ∷ ss) x = let i = more ss x in simp length-append (omega arith)

-- Nor does the decoder's answer.
pub most_decoded : (a : Start) (bs : List Bit) → ValidContext a.context → length bs ≤ 512 → {ss : List Step} {e : Stop} {m : Context} → decode a bs ≡ read ss e m → length (columns ss) ≤ 9271
most_decoded a bs v h {ss} {e} {m} z = go e (subst (λ (x : Answer). Good (enter a.state) a.context bs x) z (sound a bs v))
  where
    go : (e : Stop) → Good (enter a.state) a.context bs (read ss e m) → length (columns ss) ≤ 9271
    go (stopped q) r = most a bs v h r
    go (opened x) r = omega (arith, most a bs v h (r WB), more ss (move (solid x) (mixed WB)))

-- ---- as many are reached

seven : (s : Solid) (c : Context) → length_of s c.lengths ≡ 7 → length_of s (longer s 127 c).lengths ≡ 7
unfolding longer length_after_ones
seven WW c e = omega arith
seven BB c e = omega arith

-- k all-ones words of 7 bits in front of such a reading
ones : (s : Solid) (n laid k : ℕ) → ((j : Nth) (c : Context) → length_of s c.lengths ≡ 7 → Attained (run j s) c n laid) →
    (j : Nth) (c : Context) → length_of s c.lengths ≡ 7 → Attained (run j s) c (7 * k + n) (127 * k + laid)
unfolding value full columns
ones s n laid zero rest j c e = rw (zero-add n, zero-add laid) (rest j c e)
ones s n laid (suc k) rest j c e = go (ones s n laid k rest Later (longer s 127 c) (seven s c e))
  where
    go : Attained (run Later s) (longer s 127 c) (7 * k + n) (127 * k + laid) → Attained (run j s) c (7 * suc k + n) (127 * suc k + laid)
    go (attained {ss = ss} r x y) =
        let w : List Bit = replicate 7 I in
        attained (then (goes_on {w = w} (sym e) (ap (λ (i : ℕ). full i 127) e)) r) (omega arith)
        (omega (arith, length-append (lays (word s w)) (columns ss), length_word s w))

-- a closing word of value 126, and a move to the other solid state
last : (s : Solid) (j : Nth) (c : Context) → length_of s c.lengths ≡ 7 → Attained (run j s) c 8 127
unfolding value full columns lays
last s j c e =
    attained (then (closes {w = O ∷ replicate 6 I} (sym e) (ap (λ (i : ℕ). full i 126) e)) (then (leaves to_solid) done)) refl refl

-- Some readings lay as many, from either solid state and whatever the length of the other and X: 73 all-ones words; and 72 with the last two steps.
pub reached : MostReached
unfolding columns
reached s c e = (ones s 0 0 73 (λ j m f. attained done refl refl) First c e, ones s 8 127 72 (last s) First c e)
