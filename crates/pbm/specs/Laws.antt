-- What is written reads back. Proved in proofs/RoundTrip. Assumes nothing.
use Rattle.std.specs.Prelude.{◌≡◌, List, ◌++◌, ℕ, ◌≤◌, length, Ok}
use Rattle.basics.specs.Octets.{Octets}
use Rattle.basics.specs.Placed.{at_front}
use Rattle.bitmap.specs.Validity.{bitmap_validity}
use Rattle.printing.specs.declared.Times.TheVariants.{Once}
use Rattle.pbm.specs.Read.{bitmap_of_pbm}
use Rattle.pbm.specs.Written.{pbm_of, pbm_of_bitmap}
use Rattle.refusal.specs.Reply.{valid}

-- Of the file that a bitmap is written as, each line once, and of anything behind it, the bitmap is read.
abbrev pub PbmReadBack : Type 0
PbmReadBack = (bm more o : List ℕ) → Octets bm → bitmap_validity bm ≡ valid → length bm ≤ length o → bitmap_of_pbm (pbm_of Once bm ++ more) o ≡ (Ok (length bm), at_front bm o)

-- What the one call leaves in its output, the other reads.
abbrev pub CallsBack : Type 0
CallsBack = (bm o p : List ℕ) → Octets bm → bitmap_validity bm ≡ valid → length (pbm_of Once bm) ≤ length o → length bm ≤ length p →
    bitmap_of_pbm (pbm_of_bitmap bm Once o).1 p ≡ (Ok (length bm), at_front bm p)
