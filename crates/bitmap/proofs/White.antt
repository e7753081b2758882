-- A white page is octets of 0 behind its sizes, and the bitmap of no columns. Assumes nothing.
use mathlib.Core.Path.{◌≡◌, refl, sym, ap, ap₂, ◌∙◌}
use mathlib.Core.List.{List, [], ◌∷◌, ◌++◌}
use Prim.Native.Nat.{ℕ, zero, suc, ◌+◌, ◌*◌, ◌/◌, ◌%◌, ◌≤◌}
use native.Mathlib.Omega.{arith}
use lib.ListN.{length, set, replicate, length-replicate, replicate-append-replicate, length-set}
use Rattle.basics.specs.Placed.{placed}
use Rattle.basics.proofs.Placed.{placed_front, placed_two, placed_append}
use Rattle.octets.proofs.Packed.{packed_none}
use Rattle.bitmap.specs.Form.{sizes, Row, line_octets, bitmap_of_rows, row_pairs, bitmap_of}

lines_white : (n : ℕ) → line_octets (replicate n []) ≡ replicate (216 * n) 0
unfolding line_octets
lines_white zero = refl
lines_white (suc n) =
    let z : 216 + 216 * n ≡ 216 * suc n = omega arith in
    ap₂ (λ (l m : List ℕ). l ++ m) (packed_none 216) (lines_white n) ∙ replicate-append-replicate 216 (216 * n) 0 ∙ ap (λ (k : ℕ). replicate k 0) z

-- the four octets in front of a bitmap's rows
pub sizes_set : (n : ℕ) (o : List ℕ) → 4 ≤ length o → set (set (set (set o 0 190) 1 6) 2 (n % 256)) 3 (n / 256) ≡ placed 0 (sizes n) o
sizes_set n o h =
    placed_two 2 (n % 256) (n / 256) (set (set o 0 190) 1 6) (simp length-set (omega arith))
    ∙ ap (placed 2 (n % 256 ∷ n / 256 ∷ [])) (placed_two 0 190 6 o (omega arith)) ∙ placed_append 0 (190 ∷ 6 ∷ []) (n % 256 ∷ n / 256 ∷ []) o (omega arith)

-- the sizes written in front of octets that are all 0
pub white_page : (n lines : ℕ) → n ≡ 4 + 216 * lines → placed 0 (sizes lines) (replicate n 0) ≡ bitmap_of_rows (replicate lines [])
unfolding bitmap_of_rows
white_page n lines e =
    let k : n ≡ suc (suc (suc (suc (216 * lines)))) = omega arith in
    ap (λ (m : ℕ). placed 0 (sizes lines) (replicate m 0)) k ∙ placed_front (sizes lines) _ ∙ rw (length-replicate {A = Row} lines [], lines_white lines) refl

-- a white page has no columns yet
white_pairs : (pairs : ℕ) → row_pairs pairs [] ≡ replicate (2 * pairs) []
unfolding row_pairs
white_pairs zero = refl
white_pairs (suc pairs) =
    let z : 2 * suc pairs ≡ suc (suc (2 * pairs)) = omega arith in
    rw z (ap (λ (rows : List Row). [] ∷ [] ∷ rows) (white_pairs pairs))

pub white_columns : (pairs : ℕ) → bitmap_of_rows (replicate (2 * pairs) []) ≡ bitmap_of pairs []
unfolding bitmap_of
white_columns pairs = ap bitmap_of_rows (sym (white_pairs pairs))
