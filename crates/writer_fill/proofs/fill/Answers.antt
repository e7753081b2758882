-- `writer_fill::fill` meets its contract: unit by unit. Assumes nothing.
use mathlib.Core.Path.{sym, ◌∙◌}
use native.Mathlib.Omega.{arith}
use Rattle.units.proofs.Ahead.{page_columns}
use Rattle.writer_fill.proofs.Filled.{filling_less, filling_start, going, filling_fits, filling_more, filling_last, filling_full}
use Rattle.writer_fill.proofs.fill.Goals as goal

pub loop-head-init : goal.loop-head-init
loop-head-init c = let p : _ = c.requires.0 in rw c.unfilled-p.ensures (filling_start _ _ _ p.valid (omega (arith, p.within, page_columns p.page)) p.empty)

pub overflow_add-encoded : goal.overflow_add-encoded
overflow_add-encoded c = let p : _ = c.requires.0 in omega (arith, c.loop-head.invariant.within, page_columns p.page, p.page.few, p.page.count)

pub unit-u-requires : goal.unit-u-requires
unit-u-requires c = let p : _ = c.requires.0 in let i : _ = c.loop-head.invariant in (p.page, omega (arith, i.within, page_columns p.page), i.valid)

pub append-requires : goal.append-requires
append-requires c = filling_fits c.loop-head.invariant c.unit-u.ensures

pub after-requires : goal.after-requires
after-requires c =
    let p : _ = c.requires.0 in let u : _ = c.unit-u.ensures in
    (omega (arith, c.loop-head.invariant.few, u.few), omega (arith, u.within, page_columns p.page, p.page.few, p.page.count))

pub after-p-requires : goal.after-p-requires
after-p-requires c =
    let p : _ = c.requires.0 in let u : _ = c.unit-u.ensures in
    (omega (arith, c.loop-head.invariant.few, u.few), omega (arith, u.within, page_columns p.page, p.page.few, p.page.count))

pub loop-head-smaller : goal.loop-head-smaller
loop-head-smaller c = rw c.after-p.ensures (filling_less c.loop-head.invariant c.unit-u.ensures _ (page_columns c.requires.0.page) c.in-Some.is)

pub loop-head-preserved : goal.loop-head-preserved
loop-head-preserved c =
    rw c.after-p.ensures (filling_more c.loop-head.invariant c.unit-u.ensures (going _ _ (sym c.is_full.ensures ∙ c.loop-head-test.true)) c.append.ensures c.in-Some.is)

pub returns-in_default : goal.returns-in_default
returns-in_default c =
    rw c.after.ensures (filling_last c.loop-head.invariant c.unit-u.ensures (going _ _ (sym c.is_full.ensures ∙ c.loop-head-test.true)) c.append.ensures c.in_default.is)

pub returns : goal.returns
returns c = filling_full c.loop-head.invariant (sym c.is_full.ensures ∙ c.loop-head-test.false)
