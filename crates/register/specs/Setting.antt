-- The check setting, and the check of a frame under it. Assumes nothing.
use Rattle.std.specs.Prelude.{Bool, true, false, ◌&&◌, ◌||◌, List, ℕ, ◌%◌, eqb, ltb, drop}
use Rattle.octets.specs.Bits.{Bit, bits_from}
use Rattle.register.specs.declared.BitOrder.TheVariants.{LowFirst, HighFirst}
use Rattle.register.specs.declared.Check.{Check}
use Rattle.register.specs.Register.{register_after}

-- The settings that docs/CHECK-SETTING.md records: x^12 + x^8 + x^7 + x^5 + x^3 + 1 from 0, over all bits. By the scope paper's order of the
-- check's bits no setting fits the RFC's frames, and so it is not compared; by the other order this one does.
abbrev pub recorded_check : Check
recorded_check = record { generator = 425; start = 0; first = 0; compare = false; order = LowFirst }

abbrev pub rfc_check : Check
rfc_check = record { generator = 425; start = 0; first = 0; compare = true; order = HighFirst }

-- an odd generator below 4096, a start below 4096, a first bit of 0 or 24; either order
unfoldable pub allowed_check : Check → Bool
allowed_check c = eqb (c.generator % 2) 1 && (ltb c.generator 4096 && (ltb c.start 4096 && (eqb c.first 0 || eqb c.first 24)))

-- the check, under a setting, of a frame's bits 0 to 572: the register takes them from the first bit on
unfoldable pub check_under : Check → List Bit → ℕ
check_under c bs = register_after c.generator c.start (drop c.first bs)

-- and of a frame's octets in sent order
unfoldable pub frame_check : Check → List ℕ → ℕ
frame_check c s = check_under c (bits_from s 0 573)
