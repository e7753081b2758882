-- What a walker finds at a place, its step from there, and the places that it comes to. Assumes nothing.
use mathlib.Core.Path.{◌≡◌, refl, sym, ap, ◌∙◌}
use mathlib.Core.List.{List}
use Prim.Native.Nat.{ℕ, zero, suc, ◌+◌, ◌*◌, ◌-◌}
use native.Mathlib.Nat.{add-zero, add-suc}
use native.Mathlib.Numerals.{add-one}
use native.Mathlib.Omega.{arith}
use Rattle.basics.proofs.Apart.{differ}
use Rattle.register.specs.declared.Check.{Check}
use Rattle.frame.specs.declared.Record.{Record as FrameRecord}
use Rattle.record_found.specs.declared.Found.{Found}
use Rattle.record_found.specs.declared.Found.TheVariants.{Record, End}
use Rattle.record_found.specs.Found.{step_at}
use Rattle.walker.specs.Walk.{place_of}
use Rattle.walker.specs.Laws.{RecordPlace, WalkEnds}
use Rattle.record_found.proofs.Steps.{step_room, step_after}
use Rattle.std.specs.Prelude.{Result, Ok, Err}
use Rattle.refusal.specs.declared.Refusal.{Refusal}

pub place_start : (c : Check) (file : List ℕ) → place_of c file 0 ≡ 0
unfolding place_of
place_start c file = refl

pub place_next : (c : Check) (file : List ℕ) (k : ℕ) → (step_at c file (place_of c file k)).next ≡ place_of c file (k + 1)
unfolding place_of
place_next c file k = rw add-one refl

pub record_place : RecordPlace
unfolding place_of
record_place c file zero r e = refl
record_place c file (suc k) r e = go (step_at c file (place_of c file k)).found refl (λ s. record_place c file k s)
  where
    -- whoever stays finds there what was there before, and that is no record
    stays : {f : Result Found Refusal} → (step_at c file (place_of c file k)).found ≡ f → (step_at c file (place_of c file k)).next ≡ place_of c file k → f ≡ Ok (Record r)
    stays f x = sym f ∙ rw x at e

    go : (f : Result Found Refusal) → (step_at c file (place_of c file k)).found ≡ f → ((s : FrameRecord) → (step_at c file (place_of c file k)).found ≡ Ok (Record s) → place_of c file k ≡ 76 * k) →
        (step_at c file (place_of c file k)).next ≡ 76 * suc k
    go (Ok (Record s)) f before = step_after c file (place_of c file k) f ∙ omega (arith, before s f)
    go (Ok End) f before = let x = stays f (step_after c file (place_of c file k) f) in differ cc
    go (Err g) f before = let x = stays f (step_after c file (place_of c file k) f) in differ cc

pub walk_ends : WalkEnds
unfolding place_of
walk_ends c file n k e h = let z : k ≡ n + (k - n) = omega arith in ap (place_of c file) z ∙ on (k - n)
  where
    at : ℕ
    at = place_of c file n

    stays : (f : Result Found Refusal) → (step_at c file at).found ≡ f → (step_at c file at).next ≡ at
    stays (Ok (Record r)) f = absurd (omega (arith, record_place c file n r f, step_room c file at f))
    stays (Ok End) f = step_after c file at f
    stays (Err g) f = step_after c file at f

    on : (j : ℕ) → place_of c file (n + j) ≡ at
    on zero = rw (add-zero n) refl
    on (suc j) = ap (place_of c file) (add-suc n j) ∙ ap (λ (x : ℕ). (step_at c file x).next) (on j) ∙ stays (step_at c file at).found refl
