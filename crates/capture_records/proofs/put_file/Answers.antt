-- `capture_records::put_file` meets its contract: entry by entry, what is left to write is the records of the entries that are left, and the end
-- record. Assumes nothing.
use mathlib.Core.Path.{◌≡◌, sym, ◌∙◌}
use mathlib.Core.Bool.{true}
use mathlib.Core.List.{List, ◌++◌}
use Prim.Native.Nat.{ℕ, ◌*◌, ◌+◌, ◌<◌, ◌≤◌}
use native.Mathlib.Omega.{arith}
use lib.ListN.{length, drop}
use Rattle.basics.proofs.Writing.{Left, left_all, left_room, left_rest, left_on, left_end}
use Rattle.capture.specs.Frames.{captured_at}
use Rattle.capture.specs.Extract.{all_within, record_of_frame, file_of_list}
use Rattle.frame.specs.Layout.{end_record}
use Rattle.capture.proofs.Extracts.{octet_of, bit_in_octet, file_from, file_all, file_first, file_end, within_first, entry_within, length_record, length_file}
use Rattle.capture_records.proofs.put_file.Goals.{In-loop-k, After-loop-k}
use Rattle.capture_records.proofs.put_file.Goals as goal

pub loop-k-init : goal.loop-k-init
loop-k-init c = (c.requires.0, left_all _ (omega (arith, length_file c.args.octets.now c.args.list.now)) (file_all _ _))

-- the entry that is written, and what is left behind it
abbrev frame : (c : In-loop-k) → List ℕ
frame c = let a : _ = c.args in let k : ℕ = c.loop-k.k in captured_at a.octets.now (8 * octet_of a.list.now k + bit_in_octet a.list.now k)

entry : (c : In-loop-k) → let a : _ = c.args in let k : ℕ = c.loop-k.k in
    (bit_in_octet a.list.now k < 8) × (octet_of a.list.now k ≤ length a.octets.now) × (all_within a.octets.now (drop (2 * (k + 1)) a.list.now) ≡ true)
entry c = let l : _ = c.loop-k in entry_within _ _ _ _ (sym (within_first _ _ l.k (omega arith)) ∙ l.invariant.0)

next : (c : In-loop-k) → let a : _ = c.args in let k : ℕ = c.loop-k.k in
    file_from a.octets.now a.list.now k ≡ record_of_frame (frame c) ++ file_from a.octets.now a.list.now (k + 1)
next c = file_first _ _ c.loop-k.k (omega arith)

pub put_frame-requires : goal.put_frame-requires
put_frame-requires c =
    let g : _ = (goal.at.put_frame-requires c).In-loop-k in
    let w : _ = entry g in
    let l : _ = c.loop-k in
    (w.0, w.1, omega (arith, left_room l.invariant.1 (record_of_frame (frame g)) _ (next g), length_record (frame g)))

pub loop-k-preserved : goal.loop-k-preserved
loop-k-preserved c =
    let g : _ = (goal.at.loop-k-preserved c).In-loop-k in
    ((entry g).2, left_on c.loop-k.invariant.1 _ (next g) c.put_frame.ensures)

-- the end record is left
last : (c : After-loop-k) → Left (file_of_list c.args.octets.now c.args.list.now) c.args.out.now end_record c.loop-k.out
last c = rw (file_end c.args.octets.now c.args.list.now c.loop-k.k (omega arith)) at c.loop-k.invariant.1

pub put_end-requires : goal.put_end-requires
put_end-requires c = omega (arith, left_rest (last (goal.at.put_end-requires c).After-loop-k))

pub returns : goal.returns
returns c = left_end (last (goal.at.returns c).After-loop-k) c.put_end.ensures
