-- The decoder's answer is a reading; where it refuses, so many first bits have one. Assumes nothing.
use mathlib.Core.Path.{◌≡◌, refl}
use mathlib.Core.Bool.{Bool, true, false}
use mathlib.Core.List.{List, [], ◌∷◌, ◌++◌, append_assoc}
use Prim.Native.Nat.{zero, suc, ◌+◌}
use native.Mathlib.Omega.{arith}
use lib.ListN.{length, take, length-append}
use lib.Seq.{take-append-add}
use Rattle.octets.specs.Bits.{Bit, O, I, value}
use Rattle.state.specs.declared.Mixed.{Mixed}
use Rattle.state.specs.declared.Mixed.TheVariants.{WB, BW}
use Rattle.state.specs.declared.Solid.{Solid}
use Rattle.state.specs.declared.Solid.TheVariants.{WW, BB}
use Rattle.state.specs.declared.State.TheVariants.{Solid as solid, Mixed as mixed}
use Rattle.diagram.specs.declared.Context.{Context}
use Rattle.field_length.specs.declared.Nth.{Nth}
use Rattle.field_length.specs.declared.Nth.TheVariants.{First, Later}
use Rattle.diagram.specs.Diagram.{other, length_of, after_move, longer, closed, full, Place, at, run, out, Step, move, step_bits, arc_bits, BW·BW, BW·WB, BW·WW, BW·BB, WB·WB, WB·BW, WB·WW, WB·BB, to_solid, to_mixed, Allowed, moves, leaves, goes_on, closes, Reading, done, then, ReadableAt, ValidContext}
use Rattle.diagram.specs.Decoder.{stopped, opened, Answer, refused, read, onto, DecoderState, bw, bw0, bw01, bw010, bw011, wb, wb1, wb10, wb100, wb101, afterClosing, afterOne, part, begin, shut, bit, finish, follow, decode_from}
use Rattle.diagram.proofs.Contexts.{valid_length, valid_after_move, valid_longer, valid_closed}

-- What an answer says: so many first bits have a reading; or its steps are a reading, or with a last 1 into either mixed state they are.
abbrev pub Good : Place → Context → List Bit → Answer → Type 0
Good p c bs (refused k) = ReadableAt p c (take k bs)
Good p c bs (read ss (stopped q) m) = Reading p c ss bs q m
Good p c bs (read ss (opened s) m) = (k : Mixed) → Reading p c (ss ++ move (solid s) (mixed k) ∷ []) bs (at k) m

abbrev pub base : DecoderState → Place
base bw = at BW
base bw0 = at BW
base bw01 = at BW
base bw010 = at BW
base bw011 = at BW
base wb = at WB
base wb1 = at WB
base wb10 = at WB
base wb100 = at WB
base wb101 = at WB
base (afterClosing s) = out s
base (afterOne s) = out s
base (part k s w n) = run k s

abbrev pub pending : DecoderState → List Bit
pending bw = []
pending bw0 = O ∷ []
pending bw01 = O ∷ I ∷ []
pending bw010 = O ∷ I ∷ O ∷ []
pending bw011 = O ∷ I ∷ I ∷ []
pending wb = []
pending wb1 = I ∷ []
pending wb10 = I ∷ O ∷ []
pending wb100 = I ∷ O ∷ O ∷ []
pending wb101 = I ∷ O ∷ I ∷ []
pending (afterClosing s) = []
pending (afterOne s) = I ∷ []
pending (part k s w n) = w

-- A word that is begun has as many bits, with those to come, as its field.
abbrev pub Fits : DecoderState → Context → Type 0
Fits bw c = Unit {0}
Fits bw0 c = Unit {0}
Fits bw01 c = Unit {0}
Fits bw010 c = Unit {0}
Fits bw011 c = Unit {0}
Fits wb c = Unit {0}
Fits wb1 c = Unit {0}
Fits wb10 c = Unit {0}
Fits wb100 c = Unit {0}
Fits wb101 c = Unit {0}
Fits (afterClosing s) c = Unit {0}
Fits (afterOne s) c = Unit {0}
Fits (part k s w n) c = length w + suc n ≡ length_of s c.lengths

-- The bits of a step that is allowed are those that `step_bits` says.
pub allowed_bits : {p q : Place} {c m : Context} {s : Step} {w : List Bit} → Allowed p c s w q m → step_bits s ≡ w
unfolding arc_bits
allowed_bits (moves BW·BW) = refl
allowed_bits (moves BW·WB) = refl
allowed_bits (moves BW·WW) = refl
allowed_bits (moves BW·BB) = refl
allowed_bits (moves WB·WB) = refl
allowed_bits (moves WB·BW) = refl
allowed_bits (moves WB·WW) = refl
allowed_bits (moves WB·BB) = refl
allowed_bits (leaves to_solid) = refl
allowed_bits (leaves to_mixed) = refl
allowed_bits (goes_on e h) = refl
allowed_bits (closes e h) = refl

-- No bits have a reading; and a 0 out of BW and a 1 out of WB have one.
no_bits : {p : Place} {c : Context} → ReadableAt p c []
no_bits {p} {c} = record { steps = []; place = p; context = c; is = done }

first_0 : {c : Context} → ReadableAt (at BW) c (O ∷ [])
first_0 {c} = record { steps = move (mixed BW) (mixed BW) ∷ []; place = at BW; context = after_move c; is = then (moves BW·BW) done }

first_1 : {c : Context} → ReadableAt (at WB) c (I ∷ [])
first_1 {c} = record { steps = move (mixed WB) (mixed WB) ∷ []; place = at WB; context = after_move c; is = then (moves WB·WB) done }

good_onto : {p q : Place} {c m : Context} {s : Step} {w : List Bit} (bs : List Bit) → Allowed p c s w q m →
    (a : Answer) → Good q m bs a → Good p c (w ++ bs) (onto s a)
unfolding onto
good_onto {s} {w} bs h (refused k) g =
    rw (allowed_bits h, take-append-add w bs k) (record { steps = s ∷ g.steps; place = g.place; context = g.context; is = then h g.is })
good_onto bs h (read ss (stopped q) m) g = then h g
good_onto bs h (read ss (opened s) m) g = λ k. then h (g k)

pub fits_begin : (k : Nth) (s : Solid) (c : Context) → ValidContext c → Fits (begin k s c) c
unfolding begin
fits_begin k s c v = let e = valid_length s c v in omega arith

good_word : (t : Bool) (k : Nth) (s : Solid) (w bs : List Bit) (c : Context) → length w ≡ length_of s c.lengths → full (length_of s c.lengths) (value w) ≡ t →
    Good (run Later s) (longer s (value w) c) bs (decode_from bs (begin Later s (longer s (value w) c)) (longer s (value w) c)) →
    Good (out s) (closed k s (value w) c) bs (decode_from bs (afterClosing s) (closed k s (value w) c)) →
    Good (run k s) c (w ++ bs) (follow (shut t k s w c) c (λ e f. decode_from bs e f))
unfolding follow shut onto
good_word true k s w bs c e h g r = good_onto bs (goes_on e h) (decode_from bs (begin Later s (longer s (value w) c)) (longer s (value w) c)) g
good_word false k s w bs c e h g r = good_onto bs (closes e h) (decode_from bs (afterClosing s) (closed k s (value w) c)) r

pub sound_from : (bs : List Bit) (d : DecoderState) (c : Context) → ValidContext c → Fits d c → Good (base d) c (pending d ++ bs) (decode_from bs d c)
unfolding decode_from follow bit finish shut onto begin
sound_from [] bw c v f = done
sound_from [] bw0 c v f = then (moves BW·BW) done
sound_from [] bw01 c v f = first_0
sound_from [] bw010 c v f = then (moves BW·WB) done
sound_from [] bw011 c v f = first_0
sound_from [] wb c v f = done
sound_from [] wb1 c v f = then (moves WB·WB) done
sound_from [] wb10 c v f = first_1
sound_from [] wb100 c v f = first_1
sound_from [] wb101 c v f = then (moves WB·BW) done
sound_from [] (afterClosing s) c v f = done
sound_from [] (afterOne s) c v f = λ k. then (leaves to_mixed) done
sound_from [] (part k s [] n) c v f = done
sound_from [] (part k s (b ∷ w) n) c v f = no_bits
sound_from (O ∷ bs) bw c v f = sound_from bs bw0 c v tt
sound_from (I ∷ bs) bw c v f = no_bits
sound_from (O ∷ bs) bw0 c v f = good_onto (O ∷ bs) (moves BW·BW) (decode_from bs bw0 (after_move c)) (sound_from bs bw0 (after_move c) (valid_after_move c v) tt)
sound_from (I ∷ bs) bw0 c v f = sound_from bs bw01 c v tt
sound_from (O ∷ bs) bw01 c v f = sound_from bs bw010 c v tt
sound_from (I ∷ bs) bw01 c v f = sound_from bs bw011 c v tt
sound_from (O ∷ bs) bw010 c v f = good_onto bs (moves BW·WW) (decode_from bs (begin First WW (after_move c)) (after_move c)) (sound_from bs (begin First WW (after_move c)) (after_move c) (valid_after_move c v) (fits_begin First WW (after_move c) (valid_after_move c v)))
sound_from (I ∷ bs) bw010 c v f = good_onto (I ∷ bs) (moves BW·WB) (decode_from bs wb1 (after_move c)) (sound_from bs wb1 (after_move c) (valid_after_move c v) tt)
sound_from (O ∷ bs) bw011 c v f = first_0
sound_from (I ∷ bs) bw011 c v f = good_onto bs (moves BW·BB) (decode_from bs (begin First BB (after_move c)) (after_move c)) (sound_from bs (begin First BB (after_move c)) (after_move c) (valid_after_move c v) (fits_begin First BB (after_move c) (valid_after_move c v)))
sound_from (O ∷ bs) wb c v f = no_bits
sound_from (I ∷ bs) wb c v f = sound_from bs wb1 c v tt
sound_from (O ∷ bs) wb1 c v f = sound_from bs wb10 c v tt
sound_from (I ∷ bs) wb1 c v f = good_onto (I ∷ bs) (moves WB·WB) (decode_from bs wb1 (after_move c)) (sound_from bs wb1 (after_move c) (valid_after_move c v) tt)
sound_from (O ∷ bs) wb10 c v f = sound_from bs wb100 c v tt
sound_from (I ∷ bs) wb10 c v f = sound_from bs wb101 c v tt
sound_from (O ∷ bs) wb100 c v f = good_onto bs (moves WB·WW) (decode_from bs (begin First WW (after_move c)) (after_move c)) (sound_from bs (begin First WW (after_move c)) (after_move c) (valid_after_move c v) (fits_begin First WW (after_move c) (valid_after_move c v)))
sound_from (I ∷ bs) wb100 c v f = first_1
sound_from (O ∷ bs) wb101 c v f = good_onto (O ∷ bs) (moves WB·BW) (decode_from bs bw0 (after_move c)) (sound_from bs bw0 (after_move c) (valid_after_move c v) tt)
sound_from (I ∷ bs) wb101 c v f = good_onto bs (moves WB·BB) (decode_from bs (begin First BB (after_move c)) (after_move c)) (sound_from bs (begin First BB (after_move c)) (after_move c) (valid_after_move c v) (fits_begin First BB (after_move c) (valid_after_move c v)))
sound_from (O ∷ bs) (afterClosing s) c v f = good_onto bs (leaves to_solid) (decode_from bs (begin First (other s) (after_move c)) (after_move c)) (sound_from bs (begin First (other s) (after_move c)) (after_move c) (valid_after_move c v) (fits_begin First (other s) (after_move c) (valid_after_move c v)))
sound_from (I ∷ bs) (afterClosing s) c v f = sound_from bs (afterOne s) c v tt
sound_from (O ∷ bs) (afterOne s) c v f = good_onto (O ∷ bs) (leaves to_mixed) (decode_from bs bw0 (after_move c)) (sound_from bs bw0 (after_move c) (valid_after_move c v) tt)
sound_from (I ∷ bs) (afterOne s) c v f = good_onto (I ∷ bs) (leaves to_mixed) (decode_from bs wb1 (after_move c)) (sound_from bs wb1 (after_move c) (valid_after_move c v) tt)
sound_from (b ∷ bs) (part k s w (suc n)) c v f =
    rw (append_assoc w (b ∷ []) bs) at (sound_from bs (part k s (w ++ b ∷ []) n) c v (rw (length-append w (b ∷ [])) (omega arith)))
sound_from (b ∷ bs) (part k s w zero) c v f =
    rw (append_assoc w (b ∷ []) bs) at
    (good_word (full (length_of s c.lengths) (value (w ++ b ∷ []))) k s (w ++ b ∷ []) bs c (rw (length-append w (b ∷ [])) (omega arith)) refl
    (sound_from bs (begin Later s (longer s (value (w ++ b ∷ [])) c)) (longer s (value (w ++ b ∷ [])) c) (valid_longer s (value (w ++ b ∷ [])) c v) (fits_begin Later s (longer s (value (w ++ b ∷ [])) c) (valid_longer s (value (w ++ b ∷ [])) c v)))
    (sound_from bs (afterClosing s) (closed k s (value (w ++ b ∷ [])) c) (valid_closed k s (value (w ++ b ∷ [])) c v) tt))
