-- Parts of a PNG as other programs write and read them: the chunks' checks are those of zlib's crc32, and zlib inflates the stream to 1, 2, 3, 4. Assumes nothing.
use mathlib.Core.Path.{◌≡◌, refl}
use mathlib.Core.List.{[], ◌∷◌, flatten}
use Rattle.text.specs.Text.{codes}
use Rattle.checksum.specs.Crc.{crc_bit, crc_bits, crc_octet, crc32}
use Rattle.checksum.specs.Adler.{sums_octet, adler32}
use Rattle.png.specs.Zlib.{stored, blocks, zlib}
use Rattle.png.specs.Written.{chunk, header, scanline}

-- the first chunk of a page of 2,200 lines
header_chunk : chunk "IHDR" (header 2200)
    ≡ 0 ∷ 0 ∷ 0 ∷ 13 ∷ 73 ∷ 72 ∷ 68 ∷ 82 ∷ 0 ∷ 0 ∷ 6 ∷ 190 ∷ 0 ∷ 0 ∷ 8 ∷ 152 ∷ 1 ∷ 0 ∷ 0 ∷ 0 ∷ 0 ∷ 169 ∷ 160 ∷ 234 ∷ 63 ∷ []
unfolding codes crc_bit crc_bits crc_octet crc32 chunk
header_chunk = refl

-- two pieces
stream : zlib ((1 ∷ 2 ∷ 3 ∷ []) ∷ (4 ∷ []) ∷ []) ≡ 120 ∷ 1 ∷ 0 ∷ 3 ∷ 0 ∷ 252 ∷ 255 ∷ 1 ∷ 2 ∷ 3 ∷ 1 ∷ 1 ∷ 0 ∷ 254 ∷ 255 ∷ 4 ∷ 0 ∷ 24 ∷ 0 ∷ 11 ∷ []
unfolding sums_octet adler32 flatten stored blocks zlib
stream = refl

-- black at the left edge, and at the right
turned : scanline (128 ∷ 1 ∷ []) ≡ 0 ∷ 127 ∷ 254 ∷ []
turned = refl
