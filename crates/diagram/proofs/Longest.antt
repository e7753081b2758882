-- Where the decoder refuses, its number is the length of the longest beginning that has a reading. Assumes nothing.
--
-- That so many first bits have a reading is Sound's. That no longer beginning has one: the decoder refuses each of them (`beyond`), and what it refuses
-- has no reading (Complete). It refuses them since it takes the same way on a beginning, one bit at a time; and where it could end with a reading,
-- it has noted how far that goes (`kept`), and never falls behind that (`at_least`).
use mathlib.Core.Path.{◌≡◌, refl, subst}
use mathlib.Core.Bool.{Bool, true, false}
use mathlib.Core.List.{List, [], ◌∷◌, ◌++◌}
use Prim.Native.Nat.{ℕ, zero, suc, ◌+◌, ◌≤◌, ◌<◌}
use native.Mathlib.Omega.{arith}
use lib.ListN.{length, take, length-append}
use lib.Seq.{take_all}
use lib.Dec.{leb}
use borrow.Author.Tests.{leb-true, leb-false}
use Rattle.octets.specs.Bits.{Bit, O, I, value}
use Rattle.state.specs.declared.Mixed.TheVariants.{WB, BW}
use Rattle.state.specs.declared.Solid.{Solid}
use Rattle.state.specs.declared.State.{State}
use Rattle.state.specs.declared.State.TheVariants.{Solid as solid, Mixed as mixed}
use Rattle.diagram.specs.declared.Context.{Context}
use Rattle.diagram.specs.declared.Start.{Start}
use Rattle.field_length.specs.declared.Nth.{Nth}
use Rattle.diagram.specs.Diagram.{length_of, full, Place, enter, Step, step_bits, arc_bits, Readable, LongestBeginning, ValidContext}
use Rattle.diagram.specs.Decoder.{Answer, refused, read, onto, DecoderState, bw, bw0, bw01, bw010, bw011, wb, wb1, wb10, wb100, wb101, afterClosing, afterOne, part, begin, BitEffect, stop, pass, note, shut, bit, finish, follow, decode_from, starts, decode_at, decode}
use Rattle.diagram.specs.Laws.{OneLongest}
use Rattle.diagram.proofs.Sound.{pending}
use Rattle.diagram.proofs.Complete.{Matches}
use Rattle.diagram.proofs.Demand.{sound, complete}

-- ---- how far a reading goes

-- the bits since the place
abbrev size : DecoderState → ℕ
size d = length (pending d)

-- how many of them have a reading, as the longest of their beginnings that has one
abbrev kept : DecoderState → ℕ
kept bw = 0
kept bw0 = 1
kept bw01 = 1
kept bw010 = 3
kept bw011 = 1
kept wb = 0
kept wb1 = 1
kept wb10 = 1
kept wb100 = 1
kept wb101 = 3
kept (afterClosing s) = 0
kept (afterOne s) = 1
kept (part k s w n) = 0

-- What a bit leads to has one bit more, those of a step that is noted among them, and keeps what was kept.
abbrev Keeps : DecoderState → BitEffect → Type 0
Keeps d (stop k) = k ≡ kept d
Keeps d (pass e) = (size e ≡ suc (size d)) × (kept d ≤ kept e)
Keeps d (note s e m) = (length (step_bits s) + size e ≡ suc (size d)) × (kept d ≤ length (step_bits s) + kept e)

keeps_word : (t : Bool) (k : Nth) (s : Solid) (w : List Bit) (b : Bit) (c : Context) → Keeps (part k s w 0) (shut t k s (w ++ b ∷ []) c)
unfolding shut begin
keeps_word true k s w b c = (rw (length-append w (b ∷ [])) (omega arith), omega arith)
keeps_word false k s w b c = (rw (length-append w (b ∷ [])) (omega arith), omega arith)

keeps : (d : DecoderState) (c : Context) (b : Bit) → Keeps d (bit d c b)
unfolding bit begin arc_bits
keeps bw c O = (refl, omega arith)
keeps bw c I = refl
keeps bw0 c O = (refl, omega arith)
keeps bw0 c I = (refl, omega arith)
keeps bw01 c O = (refl, omega arith)
keeps bw01 c I = (refl, omega arith)
keeps bw010 c O = (refl, omega arith)
keeps bw010 c I = (refl, omega arith)
keeps bw011 c O = refl
keeps bw011 c I = (refl, omega arith)
keeps wb c O = refl
keeps wb c I = (refl, omega arith)
keeps wb1 c O = (refl, omega arith)
keeps wb1 c I = (refl, omega arith)
keeps wb10 c O = (refl, omega arith)
keeps wb10 c I = (refl, omega arith)
keeps wb100 c O = (refl, omega arith)
keeps wb100 c I = refl
keeps wb101 c O = (refl, omega arith)
keeps wb101 c I = (refl, omega arith)
keeps (afterClosing s) c O = (refl, omega arith)
keeps (afterClosing s) c I = (refl, omega arith)
keeps (afterOne s) c O = (refl, omega arith)
keeps (afterOne s) c I = (refl, omega arith)
keeps (part k s w (suc n)) c b = (rw (length-append w (b ∷ [])) (omega arith), omega arith)
keeps (part k s w zero) c b = keeps_word (full (length_of s c.lengths) (value (w ++ b ∷ []))) k s w b c

-- ---- what is kept is never lost

-- refused at this bit or behind it
abbrev AtLeast : ℕ → Answer → Type 0
AtLeast n (refused k) = n ≤ k
AtLeast n (read ss e c) = Unit {0}

at_least_less : (m n : ℕ) (a : Answer) → m ≤ n → AtLeast n a → AtLeast m a
at_least_less m n (refused k) h g = omega arith
at_least_less m n (read ss e c) h g = tt

at_least_onto : (m n : ℕ) (s : Step) (a : Answer) → m ≤ length (step_bits s) + n → AtLeast n a → AtLeast m (onto s a)
unfolding onto
at_least_onto m n s (refused k) h g = omega arith
at_least_onto m n s (read ss e c) h g = tt

at_least_end : (d : DecoderState) (c : Context) → AtLeast (kept d) (finish d c)
unfolding finish
at_least_end bw c = tt
at_least_end bw0 c = tt
at_least_end bw01 c = omega arith
at_least_end bw010 c = tt
at_least_end bw011 c = omega arith
at_least_end wb c = tt
at_least_end wb1 c = tt
at_least_end wb10 c = omega arith
at_least_end wb100 c = omega arith
at_least_end wb101 c = tt
at_least_end (afterClosing s) c = tt
at_least_end (afterOne s) c = tt
at_least_end (part k s [] n) c = tt
at_least_end (part k s (b ∷ w) n) c = omega arith

at_least : (bs : List Bit) (d : DecoderState) (c : Context) → AtLeast (kept d) (decode_from bs d c)
unfolding decode_from follow
at_least [] d c = at_least_end d c
at_least (b ∷ bs) d c = go (bit d c b) (keeps d c b) (λ e m. at_least bs e m)
  where
    go : (x : BitEffect) → Keeps d x → ((e : DecoderState) (m : Context) → AtLeast (kept e) (decode_from bs e m)) → AtLeast (kept d) (follow x c (λ e m. decode_from bs e m))
    go (stop k) h behind = omega (arith, h)
    go (pass e) h behind = at_least_less (kept d) (kept e) (decode_from bs e c) h.1 (behind e c)
    go (note s e m) h behind = at_least_onto (kept d) (kept e) s (decode_from bs e m) h.1 (behind e m)

-- ---- longer beginnings are refused

-- refused before this bit
abbrev Below : Answer → ℕ → Type 0
Below (refused k) n = k < n
Below (read ss e c) n = ⊥

abbrev IsRefused : Answer → Type 0
IsRefused (refused k) = Unit {0}
IsRefused (read ss e c) = ⊥

below_same : (a : Answer) (m n : ℕ) → m ≡ n → Below a m → Below a n
below_same (refused k) m n e h = omega (arith, e)
below_same (read ss x c) m n e h = h

below_onto : (s : Step) (a : Answer) (m n : ℕ) → m ≡ length (step_bits s) + n → Below (onto s a) m → Below a n
unfolding onto
below_onto s (refused k) m n e h = omega (arith, e)
below_onto s (read ss x c) m n e h = h

refused_onto : (s : Step) (a : Answer) → IsRefused a → IsRefused (onto s a)
unfolding onto
refused_onto s (refused k) h = tt
refused_onto s (read ss x c) h = h

-- Where fewer bits are kept than there are, the decoder cannot end here.
refused_end : (d : DecoderState) (c : Context) → kept d < size d → IsRefused (finish d c)
unfolding finish
refused_end bw c h = absurd (omega arith)
refused_end bw0 c h = absurd (omega arith)
refused_end bw01 c h = tt
refused_end bw010 c h = absurd (omega arith)
refused_end bw011 c h = tt
refused_end wb c h = absurd (omega arith)
refused_end wb1 c h = absurd (omega arith)
refused_end wb10 c h = tt
refused_end wb100 c h = tt
refused_end wb101 c h = absurd (omega arith)
refused_end (afterClosing s) c h = absurd (omega arith)
refused_end (afterOne s) c h = absurd (omega arith)
refused_end (part k s [] n) c h = absurd (omega arith)
refused_end (part k s (b ∷ w) n) c h = tt

between : (a : Answer) (m n : ℕ) → AtLeast m a → Below a n → m < n
between (refused k) m n h g = omega arith
between (read ss e c) m n h g = absurd g

beyond : (bs : List Bit) (d : DecoderState) (c : Context) (j : ℕ) → j ≤ length bs → Below (decode_from bs d c) (size d + j) → IsRefused (decode_from (take j bs) d c)
unfolding decode_from follow
beyond bs d c zero le h = refused_end d c (let g = between (decode_from bs d c) (kept d) (size d + 0) (at_least bs d c) h in omega arith)
beyond [] d c (suc j) le h = absurd (omega arith)
beyond (b ∷ bs) d c (suc j) le h = go (bit d c b) (keeps d c b) h (λ e m g. beyond bs e m j (omega arith) g)
  where
    go : (x : BitEffect) → Keeps d x → Below (follow x c (λ e m. decode_from bs e m)) (size d + suc j) →
        ((e : DecoderState) (m : Context) → Below (decode_from bs e m) (size e + j) → IsRefused (decode_from (take j bs) e m)) →
        IsRefused (follow x c (λ e m. decode_from (take j bs) e m))
    go (stop n) k h behind = tt
    go (pass e) k h behind = behind e c (below_same (decode_from bs e c) (size d + suc j) (size e + j) (omega (arith, k.0)) h)
    go (note s e m) k h behind =
        refused_onto s (decode_from (take j bs) e m) (behind e m (below_onto s (decode_from bs e m) (size d + suc j) (size e + j) (omega (arith, k.0)) h))

-- from a start, where no bits are pending
beyond_start : (a : Start) (bs : List Bit) (j : ℕ) → j ≤ length bs → Below (decode a bs) j → IsRefused (decode a (take j bs))
unfolding decode decode_at starts begin
beyond_start a bs j le h = go a.state h
  where
    go : (s : State) → Below (decode_at (enter s) a.context bs) j → IsRefused (decode_at (enter s) a.context (take j bs))
    go (mixed BW) h = beyond bs bw a.context j le (below_same (decode_from bs bw a.context) j (0 + j) (omega arith) h)
    go (mixed WB) h = beyond bs wb a.context j le (below_same (decode_from bs wb a.context) j (0 + j) (omega arith) h)
    go (solid s) h = beyond bs (starts (enter (solid s)) a.context) a.context j le (below_same (decode_from bs (starts (enter (solid s)) a.context) a.context) j (0 + j) (omega arith) h)

-- ---- the longest beginning

unread : (a : Answer) (ss : List Step) (q : Place) (m : Context) → IsRefused a → Matches a ss q m → ⊥
unread (refused k) ss q m h g = g
unread (read xs e n) ss q m h g = h

-- So many first bits have a reading, and not all of the bits.
pub refused_within : (a : Start) (bs : List Bit) → ValidContext a.context → {k : ℕ} → decode a bs ≡ refused k → k < length bs
refused_within a bs v {k} e = go (leb (length bs) k) refl
  where
    beginning : Readable a (take k bs)
    beginning = rw e at (sound a bs v)

    go : (t : Bool) → leb (length bs) k ≡ t → k < length bs
    go false h = leb-false (length bs) k h
    go true h =
        let whole : Readable a bs = subst (λ (xs : List Bit). Readable a xs) (take_all k bs (leb-true (length bs) k h)) beginning in
        absurd (rw e at (complete a bs v whole.is))

pub longest_beginning : (a : Start) (bs : List Bit) → ValidContext a.context → {k : ℕ} → decode a bs ≡ refused k → LongestBeginning a bs k
longest_beginning a bs v {k} e = record {
  within = let h = refused_within a bs v e in omega arith;
  readable = rw e at (sound a bs v);
  longest = λ j less le r. unread (decode a (take j bs)) r.steps r.place r.context (beyond_start a bs j le (rw e less)) (complete a (take j bs) v r.is);
}

-- It is one number: of two, neither is below the other.
pub one_longest : OneLongest
one_longest a bs k j x y = go (leb j k) (leb k j) refl refl
  where
    go : (t u : Bool) → leb j k ≡ t → leb k j ≡ u → k ≡ j
    go false u e f = absurd (x.longest j (leb-false j k e) y.within y.readable)
    go true false e f = absurd (y.longest k (leb-false k j f) x.within x.readable)
    go true true e f = let g = leb-true j k e in let h = leb-true k j f in omega arith
