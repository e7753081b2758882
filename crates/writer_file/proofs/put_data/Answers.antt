-- `writer_file::put_data` meets its contract. Assumes nothing.
use Rattle.writer_file.proofs.put_data.Goals as goal

pub returns : goal.returns
returns c = rw c.data_frame-frame.ensures at c.put_record.ensures
