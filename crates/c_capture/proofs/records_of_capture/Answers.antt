-- `c_capture::records_of_capture` meets its contract: the call's answer is handed on. Assumes nothing.
use Rattle.c_capture.proofs.Returns.{records_written, records_refused}
use Rattle.c_capture.proofs.records_of_capture.Goals as goal

pub returns-in-Ok : goal.returns-in-Ok
returns-in-Ok c = records_written _ _ _ _ c.records_of_frames.ensures c.in-Ok.is

pub returns-in-Err : goal.returns-in-Err
returns-in-Err c = records_refused _ _ _ _ c.records_of_frames.ensures c.in-Err.is c.into.ensures.0
