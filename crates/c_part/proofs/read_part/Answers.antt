-- `c_part::read_part` meets its contract. Assumes nothing.
use mathlib.Core.Path.{ap}
use native.Mathlib.Omega.{arith}
use Rattle.part.proofs.Called.{part_place}
use Rattle.c_refusal.proofs.Owed.{small_refusal}
use Rattle.c_part.proofs.Returns.{start_is, not_a_state, part_read, part_refused}
use Rattle.c_part.proofs.read_part.Goals as goal
use Rattle.refusal.specs.Reply.{reply_of}

pub refusal_code-requires : goal.refusal_code-requires
refusal_code-requires c =
    let read : _ = c in
    small_refusal read.read_part.ensures.answer (part_place _ _ _ _) (ap reply_of c.in-Err.is)

pub returns-in-Ok : goal.returns-in-Ok
returns-in-Ok c =
    let read : _ = c in
    let state : _ = read in
    part_read _ _ _ _ _ _ (omega (arith, state.if-state-gt3.false)) (start_is state.args.state _ state.with_pels.ensures) read.read_part.ensures.answer c.in-Ok.is c.numbers.ensures

pub returns-in-Err : goal.returns-in-Err
returns-in-Err c =
    let read : _ = c in
    let state : _ = read in
    part_refused _ _ _ _ _ _ (omega (arith, state.if-state-gt3.false)) (start_is state.args.state _ state.with_pels.ensures) read.read_part.ensures.answer c.in-Err.is c.refusal_code.ensures

pub returns-then-state-gt3 : goal.returns-then-state-gt3
returns-then-state-gt3 c = not_a_state _ _ _ _ _ _ c.if-state-gt3.true (start_is c.args.state _ c.with_pels.ensures) c.no_state.ensures
