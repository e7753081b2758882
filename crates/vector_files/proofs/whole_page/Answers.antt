-- `vector_files::whole_page` is safe: the setting that it hands in is allowed, and the file has room for a record and the end record. Assumes nothing.
use native.Mathlib.Omega.{arith}
use Rattle.basics.proofs.Writing.{room_left}
use Rattle.register.proofs.Setting.{made}
use Rattle.vector_files.proofs.whole_page.Goals as goal

pub unwrap-checker-requires : goal.unwrap-checker-requires
unwrap-checker-requires c = made _ _ c.new.ensures c.setting.ensures

pub put_end-requires : goal.put_end-requires
put_end-requires c = room_left 2 (omega arith) c.put_record.ensures
