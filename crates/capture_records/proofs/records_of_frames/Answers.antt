-- `capture_records::records_of_frames` meets its contract: the list and the room are judged before anything is written. Assumes nothing.
use mathlib.Core.Path.{◌≡◌, sym, ap₂, ◌∙◌}
use mathlib.Core.Bool.{true}
use mathlib.Core.List.{List}
use Prim.Native.Nat.{ℕ, ◌+◌, ◌*◌, ◌/◌, ◌≤◌}
use native.Mathlib.Omega.{arith}
use borrow.Author.Rules.{rules}
use borrow.Author.Tests.{leb-true, leb-false}
use lib.ListN.{length}
use Rattle.basics.proofs.Placed.{placed_front}
use Rattle.basics.proofs.Writing.{ended}
use Rattle.refusal.specs.Reply.{gives}
use Rattle.capture.specs.Extract.{all_within}
use Rattle.capture.proofs.Extracts.{not_within, no_room_within, room_within, length_file}
use Rattle.capture_records.proofs.records_of_frames.Goals.{Else-not-all_within, Else-not-records_fit}
use Rattle.capture_records.proofs.records_of_frames.Goals as goal

-- behind the first test all entries are within
within : (c : Else-not-all_within) → all_within c.args.octets.now c.args.list.now ≡ true
within c = sym c.all_within.ensures ∙ c.if-not-all_within.false

-- and behind the second one there is room
room : (c : Else-not-records_fit) → 76 * (length c.args.list.now / 2) + 2 ≤ length c.args.out.now
room c = leb-true _ _ (sym c.records_fit.ensures ∙ c.if-not-records_fit.false)

pub returns-then-not-all_within : goal.returns-then-not-all_within
returns-then-not-all_within c = not_within _ _ _ (sym c.all_within.ensures ∙ c.if-not-all_within.true)

pub returns-then-not-records_fit : goal.returns-then-not-records_fit
returns-then-not-records_fit c = no_room_within _ _ _ (within (goal.at.returns-then-not-records_fit c).Else-not-all_within) (leb-false _ _ (sym c.records_fit.ensures ∙ c.if-not-records_fit.true))

pub put_file-requires : goal.put_file-requires
put_file-requires c = (within (goal.at.put_file-requires c).Else-not-all_within, omega (arith, room (goal.at.put_file-requires c).Else-not-records_fit))

pub returns : goal.returns
returns c =
    let g : _ = goal.at.returns c in
    ap₂ (λ (n : ℕ) (q : List ℕ). (gives n, q)) (omega (arith, c.put_file.ensures.at, length_file c.args.octets.now c.args.list.now)) (ended c.put_file.ensures (search rules) ∙ placed_front _ _) ∙ room_within _ _ _ (within g.Else-not-all_within) (room g.Else-not-records_fit)
