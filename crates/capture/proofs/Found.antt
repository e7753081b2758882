-- Every frame that is taken, and no other: by the steps of the search, for the frames among the next n bits. Bit i is the next, and the first k bits
-- belong to the frame before. Assumes nothing.
use mathlib.Core.Path.{◌≡◌, refl, sym, ap, subst, ◌∙◌}
use mathlib.Core.Bool.{Bool, true, false, cond, ◌&&◌, true≢false}
use mathlib.Core.List.{List, [], ◌∷◌}
use Prim.Native.Nat.{ℕ, zero, suc, ◌+◌, ◌*◌, ◌<◌, ◌≤◌}
use native.Mathlib.Decide.{dec_lt}
use native.Mathlib.Omega.{arith}
use lib.ListN.{length}
use borrow.Author.Tests.{le-leb}
use Rattle.register.specs.declared.Check.{Check}
use Rattle.refusal.specs.Reply.{refuses, delivered}
use Rattle.register.specs.Setting.{allowed_check}
use Rattle.register.proofs.Setting.{left, right}
use Rattle.frame.specs.Layout.{sync_agrees, check_agrees}
use Rattle.capture.specs.Frames.{captured_at, has_room, stands, taken_from, frames_in}
use Rattle.capture.specs.Find.{list_of, tells_frames, find_frames}
use Rattle.capture.specs.Laws.{InOrder, none, next, Among, first, later, InFrame, FrameHere, EveryFrame, NoOtherList, FewFrames, ListSuffices, OnlyCompared}
use Rattle.capture.proofs.Taken.{room_of, fails_last}

-- ---- the frames taken are in order, and each stands

earlier : (i j : ℕ) (ps : List ℕ) → i ≤ j → InOrder j ps → InOrder i ps
earlier i j [] h none = none
earlier i j (p ∷ ps) h (next l r) = let m : i ≤ p = omega arith in next m r

ordered : (c : Check) (s : List ℕ) (i k n : ℕ) → InOrder (i + k) (taken_from c s i k n)
unfolding taken_from
ordered c s i k zero = none
ordered c s i (suc k) (suc n) =
    let e : suc i + k ≡ i + suc k = omega arith in
    subst (λ (j : ℕ). InOrder j (taken_from c s (suc i) k n)) e (ordered c s (suc i) k n)
ordered c s i zero (suc n) = go (stands c s i) (ordered c s (suc i) 584 n) (ordered c s (suc i) 0 n)
  where
    go : (b : Bool) → InOrder (suc i + 584) (taken_from c s (suc i) 584 n) → InOrder (suc i + 0) (taken_from c s (suc i) 0 n) → InOrder (i + 0) (cond b (i ∷ taken_from c s (suc i) 584 n) (taken_from c s (suc i) 0 n))
    go true r t =
        let e : suc i + 584 ≡ i + 585 = omega arith in
        let m : i + 0 ≤ i = omega arith in
        next m (subst (λ (j : ℕ). InOrder j (taken_from c s (suc i) 584 n)) e r)
    go false r t = earlier (i + 0) (suc i + 0) _ (omega arith) t

stand : (c : Check) (s : List ℕ) (i k n p : ℕ) → Among p (taken_from c s i k n) → stands c s p ≡ true
unfolding taken_from
stand c s i zero zero p a = elim a [ ]
stand c s i (suc k) zero p a = elim a [ ]
stand c s i (suc k) (suc n) p a = stand c s (suc i) k n p a
stand c s i zero (suc n) p a = go (stands c s i) refl (λ a. stand c s (suc i) 584 n p a) (λ a. stand c s (suc i) 0 n p a) a
  where
    go : (b : Bool) → stands c s i ≡ b → (Among p (taken_from c s (suc i) 584 n) → stands c s p ≡ true) → (Among p (taken_from c s (suc i) 0 n) → stands c s p ≡ true)
        → Among p (cond b (i ∷ taken_from c s (suc i) 584 n) (taken_from c s (suc i) 0 n)) → stands c s p ≡ true
    go true e r t (first z) = ap (stands c s) (sym z) ∙ e
    go true e r t (later a) = r a
    go false e r t a = t a

-- the first of the frames from bit i on stands there or later, and has room
pub taken_head : (c : Check) (s : List ℕ) (i n p : ℕ) (ps : List ℕ) → taken_from c s i 0 n ≡ p ∷ ps → (i ≤ p) × (p + 585 ≤ 8 * length s)
taken_head c s i n p ps e =
    let o = subst (InOrder (i + 0)) e (ordered c s i 0 n) in
    (go o, room_of c s p (stand c s i 0 n p (subst (Among p) (sym e) (first refl))))
  where
    go : InOrder (i + 0) (p ∷ ps) → i ≤ p
    go (next l r) = omega arith

-- ---- a frame stands nowhere else

in_later : (j q : ℕ) (ps : List ℕ) → InFrame j ps → InFrame j (q ∷ ps)
in_later j q ps f = record { place = f.place; listed = later f.listed; from = f.from; before = f.before }

covered : (c : Check) (s : List ℕ) (i k n j : ℕ) → i + k ≤ j → j < i + n → stands c s j ≡ true → InFrame j (taken_from c s i k n)
unfolding taken_from
covered c s i k zero j h l e = absurd (omega arith)
covered c s i (suc k) (suc n) j h l e = covered c s (suc i) k n j (omega arith) (omega arith) e
covered c s i zero (suc n) j h l e = go (stands c s i) refl (λ m. covered c s (suc i) 584 n j m (omega arith) e) (λ m. covered c s (suc i) 0 n j m (omega arith) e)
  where
    at_or_behind : Dec (j < i + 585) → (suc i + 584 ≤ j → InFrame j (taken_from c s (suc i) 584 n)) → InFrame j (i ∷ taken_from c s (suc i) 584 n)
    at_or_behind (yes m) r = record { place = i; listed = first refl; from = omega arith; before = m }
    at_or_behind (no m) r = in_later j i _ (r (omega arith))

    go : (b : Bool) → stands c s i ≡ b → (suc i + 584 ≤ j → InFrame j (taken_from c s (suc i) 584 n)) → (suc i + 0 ≤ j → InFrame j (taken_from c s (suc i) 0 n))
        → InFrame j (cond b (i ∷ taken_from c s (suc i) 584 n) (taken_from c s (suc i) 0 n))
    go true f r t = at_or_behind (dec_lt j (i + 585)) r
    go false f r t = t (next_bit (dec_lt i j))
      where
        next_bit : Dec (i < j) → suc i + 0 ≤ j
        next_bit (yes m) = omega arith
        next_bit (no m) = let z : i ≡ j = omega arith in absurd (true≢false (sym e ∙ ap (stands c s) (sym z) ∙ f))

-- a frame stands exactly where one is
here : (c : Check) (s : List ℕ) (i : ℕ) → stands c s i ≡ true → FrameHere c s i
unfolding stands
here c s i e =
    let t = right (has_room s i) (sync_agrees (captured_at s i) && check_agrees c (captured_at s i)) e in
    record { room = room_of c s i e; sync = left (sync_agrees (captured_at s i)) (check_agrees c (captured_at s i)) t; check = right (sync_agrees (captured_at s i)) (check_agrees c (captured_at s i)) t }

is_here : (c : Check) (s : List ℕ) (i : ℕ) → FrameHere c s i → stands c s i ≡ true
unfolding stands has_room
is_here c s i h = rw (le-leb (i + 585) (8 * length s) h.room, h.sync, h.check) refl

pub every_frame : EveryFrame
unfolding frames_in
every_frame c s = record {
  in_order = ordered c s 0 0 (8 * length s);
  each_here = λ p a. here c s p (stand c s 0 0 (8 * length s) p a);
  no_other = λ i h. covered c s 0 0 (8 * length s) i (omega arith) (omega (arith, h.room)) (is_here c s i h);
}

-- ---- and no other list is so

-- what is listed from bit i on is not before it
not_before : (i q : ℕ) (ps : List ℕ) → InOrder i ps → Among q ps → i ≤ q
not_before i q [] _ a = elim a [ ]
not_before i q (p ∷ ps) (next l r) (first z) = omega arith
not_before i q (p ∷ ps) (next l r) (later a) = let m = not_before (p + 585) q ps r a in omega arith

-- of a frame that is inside one of the list, the first of the list is that one, or a later one is
behind_first : (i p : ℕ) (ps : List ℕ) → p + 585 ≤ i → InFrame i (p ∷ ps) → InFrame i ps
behind_first i p ps h f = go f.place f.listed f.from f.before
  where
    go : (q : ℕ) → Among q (p ∷ ps) → q ≤ i → i < q + 585 → InFrame i ps
    go q (first z) l m = absurd (omega arith)
    go q (later a) l m = record { place = q; listed = a; from = l; before = m }

-- What a list must be, of the bits from bit i + k on.
record From (c : Check) (s : List ℕ) (i k : ℕ) (ps : List ℕ) : Type 0 where
  in_order : InOrder (i + k) ps
  each_stands : (p : ℕ) → Among p ps → stands c s p ≡ true
  no_other : (j : ℕ) → i + k ≤ j → stands c s j ≡ true → InFrame j ps

-- behind bit i, where no frame stands
from_next : (c : Check) (s : List ℕ) (i : ℕ) (ps : List ℕ) → stands c s i ≡ false → From c s i 0 ps → From c s (suc i) 0 ps
from_next c s i ps e f = record {
  in_order = go ps f.in_order (λ p a. f.each_stands p a);
  each_stands = f.each_stands;
  no_other = λ j l. f.no_other j (omega arith);
}
  where
    go : (ps : List ℕ) → InOrder (i + 0) ps → ((p : ℕ) → Among p ps → stands c s p ≡ true) → InOrder (suc i + 0) ps
    go [] none t = none
    go (p ∷ ps) (next l r) t = let m : suc i + 0 ≤ p = later_bit (dec_lt i p) in next m r
      where
        later_bit : Dec (i < p) → suc i + 0 ≤ p
        later_bit (yes m) = omega arith
        later_bit (no m) = let z : i ≡ p = omega arith in absurd (true≢false (sym (t p (first refl)) ∙ ap (stands c s) (sym z) ∙ e))

-- where a frame stands it is the first, and the others are as they must be behind it
record Split (c : Check) (s : List ℕ) (i : ℕ) (ps : List ℕ) : Type 0 where
  others : List ℕ
  is : ps ≡ i ∷ others
  behind : From c s (suc i) 584 others

from_behind : (c : Check) (s : List ℕ) (i : ℕ) (ps : List ℕ) → stands c s i ≡ true → From c s i 0 ps → Split c s i ps
from_behind c s i ps e f = go ps f.in_order f.each_stands f.no_other (f.no_other i (omega arith) e)
  where
    is_first : (p q : ℕ) (qs : List ℕ) → InOrder (p + 585) qs → Among q (p ∷ qs) → q ≤ i → i ≤ p → p ≡ i
    is_first p q qs r (first z) l h = omega arith
    is_first p q qs r (later a) l h = let m = not_before (p + 585) q qs r a in absurd (omega arith)

    nothing_in : (j : ℕ) (a : InFrame j []) → ⊥
    nothing_in j a = no_among a.place a.listed
      where
        no_among : (q : ℕ) → Among q [] → ⊥
        no_among q a = elim a [ ]

    go : (ps : List ℕ) → InOrder (i + 0) ps → ((p : ℕ) → Among p ps → stands c s p ≡ true) → ((j : ℕ) → i + 0 ≤ j → stands c s j ≡ true → InFrame j ps) → InFrame i ps → Split c s i ps
    go [] none t u v = absurd (nothing_in i v)
    go (p ∷ qs) (next l r) t u v =
        let z : p ≡ i = is_first p v.place qs r v.listed v.from (omega arith) in
        let m : p + 585 ≡ suc i + 584 = omega arith in
        record {
          others = qs;
          is = ap {B = List ℕ} (λ x. x ∷ qs) z;
          behind = record {
            in_order = subst (λ (j : ℕ). InOrder j qs) m r;
            each_stands = λ q a. t q (later a);
            no_other = λ j h k. behind_first j p qs (omega arith) (u j (omega arith) k);
          };
        }

same : (c : Check) (s : List ℕ) (i k n : ℕ) (ps : List ℕ) → i + n ≡ 8 * length s → From c s i k ps → ps ≡ taken_from c s i k n
unfolding taken_from
same c s i k zero ps z f = go ps f.in_order f.each_stands
  where
    go : (ps : List ℕ) → InOrder (i + k) ps → ((p : ℕ) → Among p ps → stands c s p ≡ true) → ps ≡ []
    go [] none t = refl
    go (p ∷ qs) (next l r) t = let m = room_of c s p (t p (first refl)) in absurd (omega arith)
same c s i (suc k) (suc n) ps z f =
    let e : i + suc k ≡ suc i + k = omega arith in
    same c s (suc i) k n ps (omega arith)
    (record { in_order = subst (λ (j : ℕ). InOrder j ps) e f.in_order; each_stands = f.each_stands; no_other = λ j l. f.no_other j (omega arith) })
same c s i zero (suc n) ps z f = go (stands c s i) refl (λ qs g. same c s (suc i) 584 n qs (omega arith) g) (λ g. same c s (suc i) 0 n ps (omega arith) g)
  where
    go : (b : Bool) → stands c s i ≡ b → ((qs : List ℕ) → From c s (suc i) 584 qs → qs ≡ taken_from c s (suc i) 584 n) → (From c s (suc i) 0 ps → ps ≡ taken_from c s (suc i) 0 n)
        → ps ≡ cond b (i ∷ taken_from c s (suc i) 584 n) (taken_from c s (suc i) 0 n)
    go true e r t = let d = from_behind c s i ps e f in d.is ∙ ap {B = List ℕ} (λ qs. i ∷ qs) (r d.others d.behind)
    go false e r t = t (from_next c s i ps e f)

pub no_other_list : NoOtherList
unfolding frames_in
no_other_list c s ps f =
    same c s 0 0 (8 * length s) ps (omega arith) (record { in_order = f.in_order; each_stands = λ p a. is_here c s p (f.each_here p a); no_other = λ j l e. f.no_other j (here c s j e) })

-- ---- how many there are

-- places in order from bit i on whose frames end by bit m
few : (i m : ℕ) (ps : List ℕ) → i ≤ m → InOrder i ps → ((p : ℕ) → Among p ps → p + 585 ≤ m) → 585 * length ps + i ≤ m
few i m [] h none t = omega arith
few i m (p ∷ ps) h (next l r) t =
    let k = few (p + 585) m ps (t p (first refl)) r (λ q a. t q (later a)) in
    omega arith

pub few_frames : FewFrames
few_frames c s =
    let f = every_frame c s in
    let k = few 0 (8 * length s) (frames_in c s) (omega arith) f.in_order (λ p a. (f.each_here p a).room) in
    omega arith

pub length_list : (ps : List ℕ) → length (list_of ps) ≡ 2 * length ps
unfolding list_of
length_list [] = refl
length_list (p ∷ ps) = let e = length_list ps in omega arith

pub list_suffices : ListSuffices
unfolding find_frames delivered
list_suffices c s o e h = rw (e, le-leb (length (list_of (frames_in c s))) (length o) (omega (arith, length_list (frames_in c s), few_frames c s))) refl

pub only_compared : OnlyCompared
unfolding find_frames tells_frames
only_compared c s o e =
    ap (λ (b : Bool). cond b (delivered (length (frames_in c s)) 0 (list_of (frames_in c s)) o) (refuses 20 0, o)) (ap (λ (b : Bool). allowed_check c && b) e ∙ fails_last (allowed_check c))
