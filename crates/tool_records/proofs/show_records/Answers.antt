-- `tool_records::show_records` is safe and ends: where the walk goes on a record was found, which has its 76 octets, so that fewer are left. Assumes nothing.
use mathlib.Core.Bool.{true}
use mathlib.Core.Path.{◌≡◌, sym, ap, ◌∙◌}
use mathlib.Core.List.{List}
use Prim.Native.Nat.{ℕ, ◌+◌, ◌*◌, ◌≤◌}
use native.Mathlib.Omega.{arith}
use lib.ListN.{length}
use Rattle.basics.proofs.Apart.{differ}
use Rattle.register.specs.declared.Check.{Check}
use Rattle.record_found.specs.declared.Found.{Found}
use Rattle.record_found.specs.declared.Found.TheVariants.{Record, End}
use Rattle.record_found.specs.Found.{step_at}
use Rattle.record_found.proofs.Steps.{step_room}
use Rattle.walker.specs.declared.Walker.{Walker}
use Rattle.walker.specs.Walk.{walked_on, place_of}
use Rattle.walker.proofs.Steps.{place_start, place_next, record_place}
use Rattle.tool_records.specs.FoundLine.{is_record}
use Rattle.tool_records.proofs.show_records.Goals as goal
use Rattle.std.specs.Prelude.{Result, Ok, Err}
use Rattle.refusal.specs.declared.Refusal.{Refusal}

-- where a record was found after k steps, the file has its octets
goes_on : (c : Check) (file : List ℕ) (k : ℕ) (t : Result Found Refusal) → t ≡ (step_at c file (place_of c file k)).found → is_record t ≡ true → 76 * (k + 1) ≤ length file
goes_on c file k (Ok (Record r)) e is = omega (arith, record_place c file k r (sym e), step_room c file (place_of c file k) (sym e))
goes_on c file k (Ok End) e is = differ cc
goes_on c file k (Err f) e is = differ cc

-- a walker that stands where k steps lead, and what it finds there
found_there : (c : Check) (file : List ℕ) (k : ℕ) (w : Walker) (t : Result Found Refusal) → w.file.now ≡ file → w.at ≡ place_of c file k → t ≡ (step_at c w.file.now w.at).found → t ≡ (step_at c file (place_of c file k)).found
found_there c file k w t f p e = e ∙ ap (λ (x : List ℕ). (step_at c x w.at).found) f ∙ ap (λ (n : ℕ). (step_at c file n).found) p

-- and where it stands a step later
stands : (c : Check) (file : List ℕ) (k : ℕ) (w v : Walker) → w.file.now ≡ file → w.at ≡ place_of c file k → v ≡ walked_on c w → (v.file.now ≡ file) × (v.at ≡ place_of c file (k + 1))
stands c file k w v f p e = (
  ap (λ (x : Walker). x.file.now) e ∙ f,
  ap (λ (x : Walker). x.at) e ∙ ap (λ (x : List ℕ). (step_at c x w.at).next) f ∙ ap (λ (n : ℕ). (step_at c file n).next) p ∙ place_next c file k,
)

pub loop-w-init : goal.loop-w-init
loop-w-init c = (ap (λ b. b.now) c.new-w.ensures.0, c.new-w.ensures.1 ∙ sym (place_start c.args.c c.args.file.now), omega arith)

pub loop-w-smaller : goal.loop-w-smaller
loop-w-smaller c =
    omega (arith, goes_on c.args.c c.args.file.now c.loop-w.k c.next.result (found_there c.args.c c.args.file.now c.loop-w.k c.loop-w.w c.next.result c.loop-w.invariant.0 c.loop-w.invariant.1 c.next.ensures.0) (c.show_found.ensures c.loop-w-test.true))

pub loop-w-preserved : goal.loop-w-preserved
loop-w-preserved c =
    let s : _ = stands c.args.c c.args.file.now c.loop-w.k c.loop-w.w c.next.new.w c.loop-w.invariant.0 c.loop-w.invariant.1 c.next.ensures.1 in
    (s.0, s.1, goes_on c.args.c c.args.file.now c.loop-w.k c.next.result (found_there c.args.c c.args.file.now c.loop-w.k c.loop-w.w c.next.result c.loop-w.invariant.0 c.loop-w.invariant.1 c.next.ensures.0) (c.show_found.ensures c.loop-w-test.true))
