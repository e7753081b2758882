-- `vector_files::page_of` is safe: the setting that it hands in is allowed, and the file has room for three records and the end record. Assumes nothing.
use native.Mathlib.Omega.{arith}
use Rattle.basics.proofs.Writing.{room_left}
use Rattle.register.proofs.Setting.{made}
use Rattle.vector_files.proofs.page_of.Goals as goal

pub unwrap-checker-requires : goal.unwrap-checker-requires
unwrap-checker-requires c = made _ _ c.new.ensures c.setting.ensures

pub put_record-requires-2 : goal.put_record-requires-2
put_record-requires-2 c = room_left _ (omega arith) c.put_record.ensures

pub put_record-requires-3 : goal.put_record-requires-3
put_record-requires-3 c = room_left _ (room_left _ (omega arith) c.put_record.ensures) c.put_record-2.ensures

pub put_end-requires : goal.put_end-requires
put_end-requires c = room_left 2 (room_left _ (room_left _ (omega arith) c.put_record.ensures) c.put_record-2.ensures) c.put_record-3.ensures
