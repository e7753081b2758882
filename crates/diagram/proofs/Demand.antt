-- The clauses of demand 3. A string has one reading at most, but for a last single 1 out of a solid state: then it has exactly two, alike in all but the
-- mixed state that this 1 enters. The decoder refuses exactly when there is no reading, and otherwise answers the reading's columns,
-- end and lengths. Assumes nothing.
--
-- The decoder's answer is a reading (Sound), and every reading is the one that it answers with (Complete). So two readings of a string,
-- both being what one answer says, are the same or differ in the one step that the answer leaves open.
use mathlib.Core.Path.{◌≡◌, refl, sym, ap, ◌∙◌}
use mathlib.Core.Bool.{Bool, true, false, false≢true, true≢false}
use mathlib.Core.Logic.{◌↔◌}
use mathlib.Core.List.{List, [], ◌∷◌, ◌++◌, append-nil}
use Prim.Native.Nat.{ℕ, ◌<◌}
use lib.ListN.{length, length-append, length-replicate}
use native.Mathlib.Omega.{arith}
use Rattle.octets.specs.Bits.{Bit, value}
use Rattle.state.specs.declared.Mixed.{Mixed}
use Rattle.state.specs.declared.Mixed.TheVariants.{WB, BW}
use Rattle.state.specs.declared.Solid.{Solid}
use Rattle.state.specs.declared.State.{State}
use Rattle.state.specs.declared.State.TheVariants.{Solid as solid, Mixed as mixed}
use Rattle.state.specs.Pels.{pels_of}
use Rattle.diagram.specs.declared.End.TheVariants.{Open}
use Rattle.position.specs.Position.{pels_per_line, x_after}
use Rattle.position.proofs.Positions.{x_after_small, x_after_none, x_after_more}
use Rattle.diagram.specs.declared.Context.{Context}
use Rattle.diagram.specs.declared.Start.{Start}
use Rattle.field_length.specs.declared.Nth.TheVariants.{First}
use Rattle.diagram.specs.Diagram.{Place, at, enter, Step, move, word, lays, columns, last_enters_mixed, counted, last_entered, standing, end_at, reading_end, longer, closed, to_mixed, Allowed, moves, leaves, goes_on, closes, Reading, done, then, ReadingFrom, Readable, ValidContext, cross}
use Rattle.diagram.specs.Decoder.{stopped, opened, Answer, refused, read, begin, finish, decode_from, starts, decode_at, decode}
use Rattle.diagram.specs.Demand3.{ExactlyTwo, Has}
use Rattle.diagram.proofs.Sound.{Good, sound_from, fits_begin}
use Rattle.diagram.proofs.Complete.{Matches, at_bw, at_wb, at_run, complete_from}

-- The decoder's answer is a reading, or two.
pub sound : (a : Start) (bs : List Bit) → ValidContext a.context → Good (enter a.state) a.context bs (decode a bs)
unfolding decode decode_at starts begin
sound a bs v = go a.state a.context v
  where
    go : (s : State) (c : Context) → ValidContext c → Good (enter s) c bs (decode_at (enter s) c bs)
    go (mixed BW) c v = sound_from bs (starts (at BW) c) c v tt
    go (mixed WB) c v = sound_from bs (starts (at WB) c) c v tt
    go (solid s) c v = sound_from bs (begin First s c) c v (fits_begin First s c v)

-- There is no other.
pub complete : (a : Start) (bs : List Bit) → ValidContext a.context → {ss : List Step} {q : Place} {m : Context} →
    ReadingFrom a ss bs q m → Matches (decode a bs) ss q m
unfolding decode decode_at starts
complete a bs v {ss} {q} {m} r = go a.state a.context v r
  where
    go : (s : State) (c : Context) → ValidContext c → Reading (enter s) c ss bs q m → Matches (decode_at (enter s) c bs) ss q m
    go (mixed BW) c v r = complete_from r v at_bw
    go (mixed WB) c v r = complete_from r v at_wb
    go (solid s) c v r = complete_from r v at_run

-- ---- laws of readings

-- A last single 1 out of a solid state may enter either mixed state.
pub either_mixed : {p q : Place} {l m : Context} {bs : List Bit} (xs : List Step) (s : Solid) (k : Mixed) →
    Reading p l (xs ++ move (solid s) (mixed k) ∷ []) bs q m → (j : Mixed) → Reading p l (xs ++ move (solid s) (mixed j) ∷ []) bs (at j) m
either_mixed [] s k (then (leaves to_mixed) done) j = then (leaves to_mixed) done
either_mixed (x ∷ xs) s k (then h r) j = then h (either_mixed xs s k r j)

-- The empty string has no reading but that of no steps.
pub empty_only : (a : Start) → ValidContext a.context → {ss : List Step} {q : Place} {m : Context} → ReadingFrom a ss [] q m → (ss ≡ []) × (q ≡ enter a.state) × (m ≡ a.context)
unfolding decode decode_at starts begin decode_from finish
empty_only a v {ss} {q} {m} r = go a.state a.context (complete a [] v r)
  where
    go : (s : State) (c : Context) → Matches (decode_at (enter s) c []) ss q m → (ss ≡ []) × (q ≡ enter s) × (m ≡ c)
    go (mixed BW) c h = h
    go (mixed WB) c h = h
    go (solid s) c h = h

-- A reading ends in the state last entered.
pub ends_in_last : {p q : Place} {l m : Context} {ss : List Step} {bs : List Bit} → Reading p l ss bs q m → standing q ≡ last_entered (standing p) ss
ends_in_last done = refl
ends_in_last (then (moves {t = solid s} h) r) = ends_in_last r
ends_in_last (then (moves {t = mixed m} h) r) = ends_in_last r
ends_in_last (then (leaves {t = solid s} h) r) = ends_in_last r
ends_in_last (then (leaves {t = mixed m} h) r) = ends_in_last r
ends_in_last (then (goes_on e h) r) = ends_in_last r
ends_in_last (then (closes e h) r) = ends_in_last r

-- X is counted on from where it was, by the columns that are laid.
step_counts : {p q : Place} {c d : Context} {s : Step} {w : List Bit} → Allowed p c s w q d → d.x ≡ x_after c.x (length (lays s))
unfolding lays longer closed
step_counts (moves a) = refl
step_counts (leaves a) = refl
step_counts {c} (goes_on {s = s} {w = w} e t) = ap (x_after c.x) (sym (length-replicate {0} {A = State} (value w) (solid s)))
step_counts {c} (closes {s = s} {w = w} e t) = ap (x_after c.x) (sym (length-replicate {0} {A = State} (value w) (solid s)))

pub counts : {p q : Place} {c d : Context} {ss : List Step} {bs : List Bit} → Reading p c ss bs q d → c.x < pels_per_line → d.x ≡ x_after c.x (length (columns ss))
unfolding columns
counts {c} done h = sym (x_after_none c.x h)
counts {c} (then {d = d} {s = s} {ss = ss} a r) h =
    counts r (rw (step_counts a) (x_after_small c.x (length (lays s))))
    ∙ ap (λ (x : ℕ). x_after x (length (columns ss))) (step_counts a)
    ∙ x_after_more c.x (length (lays s)) (length (columns ss))
    ∙ ap (x_after c.x) (sym (length-append (lays s) (columns ss)))

-- ---- an open column

record Opens (ss : List Step) : Type 0 where
  before : List Step
  from : Solid
  to : Mixed
  is : ss ≡ before ++ move (solid from) (mixed to) ∷ []

opens : (ss : List Step) → last_enters_mixed ss ≡ true → Opens ss
opens [] h = absurd (false≢true h)
opens (move (solid s) (mixed m) ∷ []) h = record { before = []; from = s; to = m; is = refl }
opens (move (solid s) (solid t) ∷ []) h = absurd (false≢true h)
opens (move (mixed m) t ∷ []) h = absurd (false≢true h)
opens (word s w ∷ []) h = absurd (false≢true h)
opens (x ∷ y ∷ ss) h = let o = opens (y ∷ ss) h in record { before = x ∷ o.before; from = o.from; to = o.to; is = ap (λ (zs : List Step). x ∷ zs) o.is }

-- which mixed state a last move enters
abbrev last_pels : List Step → ℕ
last_pels [] = 0
last_pels (move a b ∷ []) = pels_of b
last_pels (word s w ∷ []) = 0
last_pels (x ∷ y ∷ ss) = last_pels (y ∷ ss)

last_pels_lem : (xs : List Step) (s : Solid) (k : Mixed) → last_pels (xs ++ move (solid s) (mixed k) ∷ []) ≡ pels_of (mixed k)
last_pels_lem [] s k = refl
last_pels_lem (x ∷ []) s k = refl
last_pels_lem (x ∷ y ∷ xs) s k = last_pels_lem (y ∷ xs) s k

differs : (k : Mixed) → pels_of (mixed k) ≡ pels_of (mixed (cross k)) → ⊥
differs BW h = omega arith
differs WB h = omega arith

-- A reading whose last step is open is none that stops at a place: else both its twins would be that one.
not_stopped : (a : Start) (bs : List Bit) → ValidContext a.context → {ss xs : List Step} {q r : Place} {m n : Context} → ReadingFrom a ss bs q m →
    decode a bs ≡ read xs (stopped r) n → last_enters_mixed ss ≡ false
not_stopped a bs v {ss} {xs} {q} {r} {m} {n} x e = go (last_enters_mixed ss) refl
  where
    go : (t : Bool) → last_enters_mixed ss ≡ t → t ≡ false
    go false h = refl
    go true h =
        let o = opens ss h in
        let z : ReadingFrom a (o.before ++ move (solid o.from) (mixed o.to) ∷ []) bs q m = rw o.is at x in
        let one = rw e at (complete a bs v z) in
        let two = rw e at (complete a bs v (either_mixed o.before o.from o.to z (cross o.to))) in
        absurd (differs o.to (sym (last_pels_lem o.before o.from o.to) ∙ ap (λ (ys : List Step). last_pels ys) (one.0 ∙ sym two.0) ∙ last_pels_lem o.before o.from (cross o.to)))

pub counted_all : (ss : List Step) → last_enters_mixed ss ≡ false → counted ss ≡ columns ss
unfolding counted columns
counted_all [] h = refl
counted_all (x ∷ []) h = rw (h, append-nil (lays x)) refl
counted_all (x ∷ y ∷ ss) h = ap (λ (cs : List State). lays x ++ cs) (counted_all (y ∷ ss) h)

counted_but_one : (xs : List Step) (s : Solid) (k : Mixed) → counted (xs ++ move (solid s) (mixed k) ∷ []) ≡ columns xs
unfolding counted columns
counted_but_one [] s k = refl
counted_but_one (x ∷ []) s k = refl
counted_but_one (x ∷ y ∷ xs) s k = ap (λ (cs : List State). lays x ++ cs) (counted_but_one (y ∷ xs) s k)

turns_last : (xs : List Step) (s : Solid) (k : Mixed) → last_enters_mixed (xs ++ move (solid s) (mixed k) ∷ []) ≡ true
turns_last [] s k = refl
turns_last (x ∷ []) s k = refl
turns_last (x ∷ y ∷ xs) s k = turns_last (y ∷ xs) s k

ended_at : (q : Place) (ss : List Step) → last_enters_mixed ss ≡ false → reading_end q ss ≡ end_at q
unfolding reading_end
ended_at q ss h = rw h refl

ended_open : (q : Place) (xs : List Step) (s : Solid) (k : Mixed) → reading_end q (xs ++ move (solid s) (mixed k) ∷ []) ≡ Open
unfolding reading_end
ended_open q xs s k = rw (turns_last xs s k) refl

-- ---- one reading, or exactly two

-- A reading whose last step is not open is the only one.
pub exactly_one : (a : Start) (bs : List Bit) → ValidContext a.context → {ss tt : List Step} {q r : Place} {m n : Context} → last_enters_mixed ss ≡ false →
    ReadingFrom a ss bs q m → ReadingFrom a tt bs r n → (tt ≡ ss) × (r ≡ q) × (n ≡ m)
exactly_one a bs v {ss} {tt} {q} {r} {m} {n} o x y = go (decode a bs) (complete a bs v x) (complete a bs v y)
  where
    go : (z : Answer) → Matches z ss q m → Matches z tt r n → (tt ≡ ss) × (r ≡ q) × (n ≡ m)
    go (refused j) h k = absurd h
    go (read xs (stopped p) u) h k = (k.0 ∙ sym h.0, k.1 ∙ sym h.1, k.2 ∙ sym h.2)
    go (read xs (opened s) u) h k =
        absurd (true≢false (sym (turns_last xs s h.0) ∙ ap (λ (ys : List Step). last_enters_mixed ys) (sym h.1) ∙ o))

-- Where the last step is open there are two readings, one into each mixed state, and no third.
pub exactly_two : (a : Start) (bs : List Bit) → ValidContext a.context → {ss : List Step} {q : Place} {m : Context} → last_enters_mixed ss ≡ true →
    ReadingFrom a ss bs q m → ExactlyTwo a bs
exactly_two a bs v {ss} {q} {m} o x =
    go (decode a bs) refl (sound a bs v) (complete a bs v x) (λ tt r n y. complete a bs v y)
  where
    go : (z : Answer) → decode a bs ≡ z → Good (enter a.state) a.context bs z → Matches z ss q m →
        ((tt : List Step) (r : Place) (n : Context) → ReadingFrom a tt bs r n → Matches z tt r n) → ExactlyTwo a bs
    go (refused j) e g h c = absurd h
    go (read xs (stopped p) u) e g h c = absurd (true≢false (sym o ∙ not_stopped a bs v x e))
    go (read xs (opened s) u) e g h c = record {
      before = xs;
      from = s;
      context = u;
      both = g;
      differ = λ d. differs BW (sym (last_pels_lem xs s BW) ∙ ap (λ (ys : List Step). last_pels ys) d ∙ last_pels_lem xs s WB);
      only = λ {ss} {q} {c = m} y. c ss q m y;
      column_open = λ k. (ended_open (at k) xs s k, counted_but_one xs s k);
    }

-- ---- the decoder

-- The decoder refuses exactly where there is no reading.
pub refuses : (a : Start) (bs : List Bit) → ValidContext a.context → ((k : ℕ) × (decode a bs ≡ refused k)) ↔ (Readable a bs → ⊥)
refuses a bs v = (λ e r. rw e.1 at (complete a bs v r.is), λ n. go (decode a bs) (sound a bs v) n)
  where
    go : (x : Answer) → Good (enter a.state) a.context bs x → (Readable a bs → ⊥) → (k : ℕ) × (x ≡ refused k)
    go (refused k) g n = (k, refl)
    go (read ss (stopped q) m) g n = absurd (n (record { steps = ss; place = q; context = m; is = g }))
    go (read ss (opened t) m) g n = absurd (n (record { steps = ss ++ move (solid t) (mixed BW) ∷ []; place = at BW; context = m; is = g BW }))

-- Where there is a reading the decoder answers its columns in order, its end or that it is open, and its lengths.
pub answers : (a : Start) (bs : List Bit) → ValidContext a.context → {ss : List Step} {q : Place} {m : Context} → ReadingFrom a ss bs q m → Has (decode a bs) (counted ss) (reading_end q ss) m.lengths
answers a bs v {ss} {q} {m} r = go (decode a bs) refl (complete a bs v r)
  where
    go : (x : Answer) → decode a bs ≡ x → Matches x ss q m → Has x (counted ss) (reading_end q ss) m.lengths
    go (refused j) e h = h
    go (read xs (stopped p) n) e h =
        let o = not_stopped a bs v r e in
        (ap (λ (ys : List Step). columns ys) (sym h.0) ∙ sym (counted_all ss o), ap end_at (sym h.1) ∙ sym (ended_at q ss o), ap (λ (c : Context). c.lengths) (sym h.2))
    go (read xs (opened s) n) e h = (
      sym (ap (λ (ys : List Step). counted ys) h.1 ∙ counted_but_one xs s h.0),
      sym (ap (λ (ys : List Step). reading_end q ys) h.1 ∙ ended_open q xs s h.0),
      ap (λ (c : Context). c.lengths) (sym h.3),
    )
