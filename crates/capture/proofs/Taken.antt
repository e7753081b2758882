-- The frames taken from a bit on, step by step: one that stands there, and those from behind it on; or those from the next bit on; or none, where
-- no frame has room. Assumes nothing.
use mathlib.Core.Path.{◌≡◌, refl, sym, ap, ◌∙◌}
use mathlib.Core.Bool.{Bool, true, false, ◌&&◌}
use mathlib.Core.List.{List, [], ◌∷◌}
use Prim.Native.Nat.{ℕ, zero, suc, ◌+◌, ◌*◌, ◌-◌, ◌<◌, ◌≤◌}
use native.Mathlib.Nat.{zero-add, add-zero}
use native.Mathlib.Decide.{dec_lt}
use native.Mathlib.Omega.{arith}
use lib.ListN.{length}
use borrow.Author.Tests.{leb-true, lt-leb, eq-eqb, ne_eqb}
use Rattle.octets.specs.Bits.{number_at}
use Rattle.register.specs.declared.Check.{Check}
use Rattle.frame.specs.Layout.{sync_number, sync_agrees, check_agrees}
use Rattle.capture.specs.Frames.{captured_at, has_room, stands, taken_from}
use Rattle.capture.proofs.Places.{sync_at}

-- bits of the frame before are passed over
pub passed : (c : Check) (s : List ℕ) (i k n : ℕ) → taken_from c s i k (k + n) ≡ taken_from c s (i + k) 0 n
unfolding taken_from
passed c s i zero n = rw (zero-add n, add-zero i) refl
passed c s i (suc k) n =
    let e : suc k + n ≡ suc (k + n) = omega arith in
    let f : suc i + k ≡ i + suc k = omega arith in
    ap (taken_from c s i (suc k)) e ∙ passed c s (suc i) k n ∙ ap (λ (j : ℕ). taken_from c s j 0 n) f

first_holds : (a b : Bool) → (a && b) ≡ true → a ≡ true
first_holds true b e = refl
first_holds false b e = e

pub fails_last : (a : Bool) → (a && false) ≡ false
fails_last true = refl
fails_last false = refl

-- where a frame stands it has room
pub room_of : (c : Check) (s : List ℕ) (i : ℕ) → stands c s i ≡ true → i + 585 ≤ 8 * length s
unfolding stands has_room
room_of c s i e = leb-true _ _ (first_holds _ _ e)

-- where it has room, the sync and a check that agrees stand there, a frame stands
pub stands_there : (c : Check) (s : List ℕ) (i : ℕ) → has_room s i ≡ true → number_at s i 24 ≡ sync_number → check_agrees c (captured_at s i) ≡ true → stands c s i ≡ true
unfolding stands
stands_there c s i r e h = rw (r, sync_at s i ∙ eq-eqb (number_at s i 24) sync_number e, h) refl

-- and where either does not, none does
pub no_sync_there : (c : Check) (s : List ℕ) (i : ℕ) → (number_at s i 24 ≡ sync_number → ⊥) → stands c s i ≡ false
unfolding stands
no_sync_there c s i e = rw (sync_at s i ∙ ne_eqb (number_at s i 24) sync_number e) (fails_last (has_room s i))

pub no_check_there : (c : Check) (s : List ℕ) (i : ℕ) → check_agrees c (captured_at s i) ≡ false → stands c s i ≡ false
unfolding stands
no_check_there c s i e = rw e (ap (λ (b : Bool). has_room s i && b) (fails_last (sync_agrees (captured_at s i))) ∙ fails_last (has_room s i))

-- none stands where none has room
pub none_there : (c : Check) (s : List ℕ) (i : ℕ) → 8 * length s < i + 585 → stands c s i ≡ false
unfolding stands has_room
none_there c s i h = ap (λ (b : Bool). b && (sync_agrees (captured_at s i) && check_agrees c (captured_at s i))) (lt-leb (i + 585) (8 * length s) h)

pub none_left : (c : Check) (s : List ℕ) (i k n : ℕ) → 8 * length s < i + 585 → taken_from c s i k n ≡ []
unfolding taken_from
none_left c s i k zero h = refl
none_left c s i (suc k) (suc n) h = none_left c s (suc i) k n (omega arith)
none_left c s i zero (suc n) h = rw (none_there c s i h) (none_left c s (suc i) 0 n (omega arith))

-- a frame stands at bit i
pub taken_there : (c : Check) (s : List ℕ) (i : ℕ) → stands c s i ≡ true → taken_from c s i 0 (8 * length s - i) ≡ i ∷ taken_from c s (i + 585) 0 (8 * length s - (i + 585))
unfolding taken_from
taken_there c s i e =
    let h = room_of c s i e in
    let m : ℕ = 8 * length s - (i + 585) in
    let n : 8 * length s - i ≡ suc (584 + m) = omega arith in
    let j : suc i + 584 ≡ i + 585 = omega arith in
    ap (taken_from c s i 0) n ∙ rw e (ap {B = List ℕ} (λ ps. i ∷ ps) (passed c s (suc i) 584 m ∙ ap (λ (j : ℕ). taken_from c s j 0 m) j))

-- none does
pub taken_later : (c : Check) (s : List ℕ) (i : ℕ) → stands c s i ≡ false → taken_from c s i 0 (8 * length s - i) ≡ taken_from c s (i + 1) 0 (8 * length s - (i + 1))
unfolding taken_from
taken_later c s i e = go (dec_lt i (8 * length s))
  where
    go : Dec (i < 8 * length s) → taken_from c s i 0 (8 * length s - i) ≡ taken_from c s (i + 1) 0 (8 * length s - (i + 1))
    go (yes h) =
        let n : 8 * length s - i ≡ suc (8 * length s - (i + 1)) = omega arith in
        let j : suc i ≡ i + 1 = omega arith in
        ap (taken_from c s i 0) n ∙ rw e (ap (λ (j : ℕ). taken_from c s j 0 (8 * length s - (i + 1))) j)
    go (no h) = none_left c s i 0 (8 * length s - i) (omega arith) ∙ sym (none_left c s (i + 1) 0 (8 * length s - (i + 1)) (omega arith))
