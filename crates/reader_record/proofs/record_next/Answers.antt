-- `reader_record::record_next` meets its contract: the record that is due, its place, then its kind. Assumes nothing.
use mathlib.Core.Path.{◌≡◌, sym, ap, ◌∙◌}
use Prim.Native.Nat.{◌+◌, ◌*◌, ◌≤◌}
use native.Mathlib.Omega.{arith}
use lib.ListN.{length}
use Rattle.bitmap.specs.Validity.{most_lines}
use Rattle.records.specs.declared.Kind.{Kind}
use Rattle.records.specs.declared.Kind.TheVariants.{End}
use Rattle.records.specs.Records.{due_at, in_place}
use Rattle.reader_record.specs.Record.{kind_within, next}
use Rattle.records.proofs.Order.{due_room, size_of}
use Rattle.refusal.proofs.Passed.{passed_on}
use Rattle.reader_record.proofs.Judges.{not_due, out_of_place, in_its_place}
use Rattle.reader_record.proofs.record_next.Goals.{Else-not-in_place}
use Rattle.reader_record.proofs.record_next.Goals as goal
use Rattle.std.specs.Prelude.{Ok}

-- a record of this kind, in its place
module _ (c : Else-not-in_place) (x : Kind) (e : c.in_ok-kind.kind ≡ x) where
  due : let a : _ = c.args in due_at a.file.now (76 * a.k) ≡ Ok x
  due = sym c.due_at.ensures ∙ c.in_ok-kind.was ∙ ap Ok e

  room : let a : _ = c.args in 76 * a.k + size_of x ≤ length a.file.now
  room = due_room _ _ x due

  is : let a : _ = c.args in kind_within most_lines a.checker.now.setting a.file.now a.k a.p x ≡ next a.checker.now.setting a.file.now a.k a.p
  is =
      let a : _ = c.args in
      in_its_place _ _ _ _ due (ap (λ (y : Kind). in_place y a.p.stage) (sym e) ∙ sym c.in_place.ensures ∙ c.if-not-in_place.false)

pub returns-then-not-in_place : goal.returns-then-not-in_place
returns-then-not-in_place c = rw c.into.ensures (out_of_place _ _ _ _ (sym c.due_at.ensures ∙ c.in_ok-kind.was) (sym c.in_place.ensures ∙ c.if-not-in_place.true))

pub frame_of-framed-requires : goal.frame_of-framed-requires
frame_of-framed-requires c = omega (arith, room (goal.at.frame_of-framed-requires c).Else-not-in_place _ c.in-Frame.is)

pub returns-in_err-kind : goal.returns-in_err-kind
returns-in_err-kind c = passed_on _ c.from_residual.ensures.1 ∙ not_due _ _ _ _ (sym c.due_at.ensures ∙ c.in_err-kind.was)

pub returns-in-End : goal.returns-in-End
returns-in-End c = c.end_page.ensures ∙ is (goal.at.returns-in-End c).Else-not-in_place End c.in-End.is

pub returns-in-Frame : goal.returns-in-Frame
returns-in-Frame c = c.taken_next.ensures ∙ rw c.frame_of-framed.ensures (is (goal.at.returns-in-Frame c).Else-not-in_place _ c.in-Frame.is)
