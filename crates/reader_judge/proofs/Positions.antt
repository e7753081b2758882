-- The position while a file is read: each record of 76 octets lays at most 9272 columns. Assumes nothing.
use Prim.Native.Nat.{ℕ, ◌*◌, ◌≤◌, ◌<◌}
use native.Mathlib.Omega.{arith}
use mathlib.Core.List.{List}
use lib.ListN.{length}
use Rattle.position.specs.Position.{pels_per_line, columns_before, position_after}
use Rattle.register.specs.declared.Check.{Check}
use Rattle.reader_progress.specs.declared.FileProgress.{FileProgress}
use Rattle.reader_record.proofs.Judges.{went}
use Rattle.reader_record.proofs.Grows.{record_grows}
use Rattle.reader_judge.specs.Laws.{Reached, at_first, and_next, PositionByFile, PositionOfPage}
use Rattle.reader_judge.proofs.Files.{went_image, went_room}
use Rattle.reader_judge.proofs.Answers.{page_is}

record Stands (file : List ℕ) (k : ℕ) (p : FileProgress) : Type 0 where
  inside : 76 * k ≤ length file
  count : columns_before p.image.position ≤ 9272 * k
  column : p.image.position.column < pels_per_line

stands : (c : Check) (file : List ℕ) {k : ℕ} {p : FileProgress} → Reached c file k p → Stands file k p
stands c file at_first = record { inside = omega arith; count = omega arith; column = omega arith }
stands c file (and_next {k} {p} {q} {r} before e) =
    let s = stands c file before in
    let w = went c file k p r q e in
    let g = rw (went_image w) at (record_grows file k p.image) in
    record { inside = omega (arith, went_room w); count = omega (arith, s.count, g.columns, g.few); column = g.column s.column }

pub position_by_file : PositionByFile
position_by_file c file k p r = let s = stands c file r in (omega (arith, s.inside, s.count), s.column)

pub position_of_page : PositionOfPage
unfolding position_after
position_of_page c file t cs e = let f = page_is c file t cs e in (omega (arith, f.whole), omega (arith, f.whole, f.lines, f.few))
