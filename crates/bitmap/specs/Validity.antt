-- Which bitmaps are taken. What depends on the largest number of lines is said of any such limit, by a name with `Within`, and then of
-- this installation's. Assumes nothing.
use Rattle.std.specs.Prelude.{Bool, true, false, cond, List, ℕ, zero, suc, ◌+◌, ◌-◌, ◌*◌, ◌%◌, ltb, leb, eqb, length, get_or, Result, Err}
use Rattle.refusal.specs.declared.Reason.TheVariants.{BitmapSizeNotAllowed, BitmapContentNotAllowed}
use Rattle.position.specs.Position.{pels_per_line, octets_per_line, octets_in_front}
use Rattle.bitmap.specs.Form.{lines_of}
use Rattle.refusal.specs.declared.Reason.{Reason}
use Rattle.refusal.specs.Reply.{valid}

-- the largest number of lines of a page
unfoldable pub most_lines : ℕ
most_lines = 6000

-- even, not 0, not too many
unfoldable pub lines_within : ℕ → ℕ → Bool
lines_within most n = cond (eqb n 0) false (cond (eqb (n % 2) 0) (leb n most) false)

abbrev pub lines_allowed : ℕ → Bool
lines_allowed n = lines_within most_lines n

-- 1726 pels a line, and an allowed number of lines
unfoldable pub size_within : ℕ → List ℕ → Bool
size_within most bm = cond (ltb (length bm) octets_in_front) false (cond (eqb (get_or bm 0 0 + 256 * get_or bm 1 0) pels_per_line) (lines_within most (lines_of bm)) false)

abbrev pub size_allowed : List ℕ → Bool
size_allowed bm = size_within most_lines bm

-- the last octet of the first line
abbrev pub first_line_end : ℕ
first_line_end = octets_in_front + octets_per_line - 1

-- the two trailing bits of each of the first n lines are 0
unfoldable pub trailing0 : List ℕ → ℕ → Bool
trailing0 bm zero = true
trailing0 bm (suc n) = cond (eqb (get_or bm (first_line_end + octets_per_line * n) 0 % 4) 0) (trailing0 bm n) false

unfoldable pub content_allowed : List ℕ → Bool
content_allowed bm = cond (eqb (length bm) (octets_in_front + octets_per_line * lines_of bm)) (trailing0 bm (lines_of bm)) false

-- 17, then 18
unfoldable pub validity_within : ℕ → List ℕ → Result Unit Reason
validity_within most bm = cond (size_within most bm) (cond (content_allowed bm) valid (Err BitmapContentNotAllowed)) (Err BitmapSizeNotAllowed)

abbrev pub bitmap_validity : List ℕ → Result Unit Reason
bitmap_validity bm = validity_within most_lines bm
