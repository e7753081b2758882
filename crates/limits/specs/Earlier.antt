-- This installation and the earlier ones, which allow fewer lines. `read_page` is `read_page_within most_lines`, and so with each call.
-- Proved in proofs/Earlier. Assumes nothing.
use Rattle.std.specs.Prelude.{ℕ}
use Rattle.bitmap.specs.Validity.{most_lines}
use Rattle.limits.specs.Limits.{Kept, NewRefused}

-- their largest number of lines
unfoldable pub earlier_limit : ℕ
earlier_limit = 2800

-- What they accept is accepted here, with the same values and the same octets.
abbrev pub EarlierPages : Type 0
EarlierPages = Kept earlier_limit most_lines

-- What is accepted here and has more lines they refuse, a page file by 15 at its end record, a bitmap or run words by 17, and leave the output as it was.
abbrev pub NewPages : Type 0
NewPages = NewRefused earlier_limit most_lines
