-- `writer_file::write_file` meets its contract: the set-up record, the frame of count 0, and all behind it. Assumes nothing.
use mathlib.Core.Path.{refl, sym, ◌∙◌}
use native.Mathlib.Omega.{arith}
use borrow.Author.Rules.{rules}
use lib.ListN.{replicate}
use Rattle.basics.proofs.Placed.{placed_all}
use Rattle.basics.proofs.Writing.{ended, room_left}
use Rattle.octets.proofs.Packed.{packed_none}
use Rattle.position.proofs.Positions.{last_laid}
use Rattle.register.proofs.Setting.{made, made_of}
use Rattle.units.specs.Units.{bits_of_steps}
use Rattle.writer_file.specs.File.{no_frame}
use Rattle.frame.specs.Layout.{data_front, set_up_front}
use Rattle.octets.specs.Bits.{bits_from}
use Rattle.writer_file.proofs.Pages.{frame_record, file_written}
use Rattle.writer_file.proofs.Sizes.{length_stored, length_file}
use Rattle.writer_file.proofs.write_file.Goals as goal

pub unwrap-checker-requires : goal.unwrap-checker-requires
unwrap-checker-requires c = made _ _ c.new.ensures c.requires.allowed.0

pub put_data-requires : goal.put_data-requires
put_data-requires c =
    let n : _ = length_stored c.unwrap-checker.result.setting (set_up_front c.args.settings) in
    room_left 76 (omega (arith, c.requires.size)) (rw c.set_up_frame-frame.ensures at c.put_record.ensures)

pub write_frames-requires-clause-size : goal.write_frames-requires-clause-size
write_frames-requires-clause-size c =
    let n : _ = length_stored c.unwrap-checker.result.setting (set_up_front c.args.settings) in
    let m : _ = length_stored c.unwrap-checker.result.setting (data_front c.header_for-h.result (bits_from (replicate 64 0) 0 512)) in
    room_left _ (room_left _ (omega (arith, c.requires.size)) (rw c.set_up_frame-frame.ensures at c.put_record.ensures)) c.put_data.ensures

pub returns : goal.returns
unfolding bits_of_steps
returns c =
    let s : _ = sym (made_of _ _ c.new.ensures c.unwrap-checker.ensures) in
    let first : _ = rw c.set_up_frame-frame.ensures at c.put_record.ensures in
    let none : _ = rw (c.header_for-h.ensures, c.first_start.ensures, last_laid.0, frame_record _ 0 0 no_frame _ refl (omega arith) (sym (packed_none 64))) at c.put_data.ensures in
    let w : _ = ended (file_written _ c.args.settings c.args.most _ (omega (arith, c.requires.size)) first none c.write_frames.ensures) (search rules) in
    rw s (w ∙ placed_all _ _ (length_file _ _ _ _ ∙ sym c.requires.size))
