-- `pbm_reader::header::header` meets its contract: the places at which it reads are those of the definition. Assumes nothing.
use mathlib.Core.Path.{sym, ap, ◌∙◌}
use native.Mathlib.Omega.{arith}
use Rattle.pbm.specs.Read.{header_fault}
use Rattle.pbm.specs.Header.{blank_of}
use Rattle.pbm.proofs.Headers.{begins_long, not_p4, Places, no_width, no_height, no_blank, all_said}
use Rattle.pbm_reader.proofs.header.header.Goals.{After-number-h}
use Rattle.pbm_reader.proofs.header.header.Goals as goal

places : (c : After-number-h) →
    Places c.args.file.now c.skip-a.result
    c.number-w.result.value c.number-w.result.next c.skip-b.result
    c.number-h.result.value c.number-h.result.next
places c = record {
  p4 = sym c.is_p4.ensures ∙ c.if-not-is_p4.false;
  width = c.skip-a.ensures.0;
  pels = c.number-w.ensures.0;
  behind_width = c.number-w.ensures.1;
  height = c.skip-b.ensures.0;
  lines = c.number-h.ensures.0;
  behind_height = c.number-h.ensures.1;
}

pub returns-then-blank : goal.returns-then-blank
returns-then-blank c =
    all_said (places (goal.at.returns-then-blank c).After-number-h) c.if-w-a.false c.if-h-b.false
    (ap blank_of (sym c.octet.ensures) ∙ sym c.blank.ensures ∙ c.if-blank.true)

pub returns-then-not-is_p4 : goal.returns-then-not-is_p4
returns-then-not-is_p4 c = ap header_fault (not_p4 _ (sym c.is_p4.ensures ∙ c.if-not-is_p4.true))

pub skip-a-requires : goal.skip-a-requires
skip-a-requires c = let h : _ = begins_long c.args.file.now (sym c.is_p4.ensures ∙ c.if-not-is_p4.false) in omega arith

pub number-w-requires : goal.number-w-requires
number-w-requires c = c.skip-a.ensures.1

pub skip-b-requires : goal.skip-b-requires
skip-b-requires c = c.number-w.ensures.2

pub number-h-requires : goal.number-h-requires
number-h-requires c = c.skip-b.ensures.1

pub returns-then-w-a : goal.returns-then-w-a
returns-then-w-a c = ap header_fault (no_width (places (goal.at.returns-then-w-a c).After-number-h) c.if-w-a.true)

pub returns-then-h-b : goal.returns-then-h-b
returns-then-h-b c = ap header_fault (no_height (places (goal.at.returns-then-h-b c).After-number-h) c.if-w-a.false c.if-h-b.true)

pub overflow_add-result : goal.overflow_add-result
overflow_add-result c =
    let w : _ = all_said (places (goal.at.overflow_add-result c).After-number-h) c.if-w-a.false c.if-h-b.false (ap blank_of (sym c.octet.ensures) ∙ sym c.blank.ensures ∙ c.if-blank.true) in
    omega arith

pub returns-else-blank : goal.returns-else-blank
returns-else-blank c = ap header_fault (no_blank (places (goal.at.returns-else-blank c).After-number-h) c.if-w-a.false c.if-h-b.false
    (ap blank_of (sym c.octet.ensures) ∙ sym c.blank.ensures ∙ c.if-blank.false))
