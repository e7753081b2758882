-- Rows and columns say the same page, and so do a bitmap that is taken and its rows: each is the other's inverse. The pels of a column are
-- found in its row pair. Assumes nothing.
use mathlib.Core.Path.{◌≡◌, refl, sym, ap, ap₂, ◌∙◌}
use mathlib.Core.List.{List, [], ◌∷◌, ◌++◌, map}
use Prim.Native.Nat.{ℕ, zero, suc, ◌+◌, ◌-◌, ◌*◌, ◌/◌, ◌<◌, ◌≤◌}
use native.Mathlib.Nat.{add-zero, zero-add}
use native.Mathlib.Omega.{arith}
use lib.ListN.{length, length-map, get_or, take, drop, length-append, length-take, length-drop, take-append-drop, get_or-map, get_or-eq_default}
use lib.Seq.{ext_get_or, get_or-take, get_or-drop, take_at, drop_at, length-take-le}
use Rattle.octets.specs.Bits.{Bit, O, I, to_bit, bit_at, bits_from}
use Rattle.octets.proofs.Fields.{bit_num_lem, length_bits}
use Rattle.octets.proofs.BitsEqual.{bit_at_lem}
use Rattle.state.specs.declared.Mixed.TheVariants.{WB, BW}
use Rattle.state.specs.declared.Solid.TheVariants.{WW, BB}
use Rattle.state.specs.declared.State.{State}
use Rattle.state.specs.declared.State.TheVariants.{Solid as solid, Mixed as mixed}
use Rattle.bitmap.specs.Form.{Row, top_of, bottom_of, lines_of, bitmap_of_rows, rows_from, rows_of, row_pairs, pair_rows, columns_of_rows, bitmap_of, columns_of}
use Rattle.bitmap.specs.Laws.{Full, RowsBitmap, ColumnsBitmap}
use Rattle.bitmap.proofs.Pels.{pel_at, length_bitmap, pel_bitmap}

short : (f : State → Bit) (cs : List State) (x : ℕ) → 1726 ≤ x → length (map f (take 1726 cs)) ≤ x
short f cs x h = omega (arith, length-map (take 1726 cs) f, length-take 1726 cs)

-- ---- rows and columns

over_rows : (cs : List State) → pair_rows (map top_of cs) (map bottom_of cs) ≡ cs
unfolding pair_rows
over_rows [] = refl
over_rows (solid WW ∷ cs) = ap (λ (l : List State). solid WW ∷ l) (over_rows cs)
over_rows (solid BB ∷ cs) = ap (λ (l : List State). solid BB ∷ l) (over_rows cs)
over_rows (mixed WB ∷ cs) = ap (λ (l : List State). mixed WB ∷ l) (over_rows cs)
over_rows (mixed BW ∷ cs) = ap (λ (l : List State). mixed BW ∷ l) (over_rows cs)

pub columns_rows : (pairs : ℕ) (cs : List State) → length cs ≡ 1726 * pairs → columns_of_rows (row_pairs pairs cs) ≡ cs
unfolding columns_of_rows row_pairs
columns_rows zero [] e = refl
columns_rows zero (c ∷ cs) e = absurd (omega arith)
columns_rows (suc pairs) cs e =
    ap₂ (λ (l m : List State). l ++ m) (over_rows (take 1726 cs)) (columns_rows pairs (drop 1726 cs) (length-drop 1726 cs ∙ omega arith)) ∙ take-append-drop 1726 cs

length_over : (n : ℕ) (ts bs : Row) → length ts ≡ n → length bs ≡ n → length (pair_rows ts bs) ≡ n
unfolding pair_rows
length_over n [] bs e f = e
length_over n (t ∷ ts) [] e f = absurd (omega arith)
length_over zero (t ∷ ts) (b ∷ bs) e f = absurd (omega arith)
length_over (suc n) (t ∷ ts) (b ∷ bs) e f = ap suc (length_over n ts bs (omega arith) (omega arith))

tops : (ts bs : Row) → length ts ≡ length bs → map top_of (pair_rows ts bs) ≡ ts
unfolding pair_rows
tops [] bs e = refl
tops (t ∷ ts) [] e = absurd (omega arith)
tops (O ∷ ts) (O ∷ bs) e = ap (λ (l : Row). O ∷ l) (tops ts bs (omega arith))
tops (O ∷ ts) (I ∷ bs) e = ap (λ (l : Row). O ∷ l) (tops ts bs (omega arith))
tops (I ∷ ts) (O ∷ bs) e = ap (λ (l : Row). I ∷ l) (tops ts bs (omega arith))
tops (I ∷ ts) (I ∷ bs) e = ap (λ (l : Row). I ∷ l) (tops ts bs (omega arith))

bottoms : (ts bs : Row) → length ts ≡ length bs → map bottom_of (pair_rows ts bs) ≡ bs
unfolding pair_rows
bottoms [] [] e = refl
bottoms [] (b ∷ bs) e = absurd (omega arith)
bottoms (t ∷ ts) [] e = absurd (omega arith)
bottoms (O ∷ ts) (O ∷ bs) e = ap (λ (l : Row). O ∷ l) (bottoms ts bs (omega arith))
bottoms (O ∷ ts) (I ∷ bs) e = ap (λ (l : Row). I ∷ l) (bottoms ts bs (omega arith))
bottoms (I ∷ ts) (O ∷ bs) e = ap (λ (l : Row). O ∷ l) (bottoms ts bs (omega arith))
bottoms (I ∷ ts) (I ∷ bs) e = ap (λ (l : Row). I ∷ l) (bottoms ts bs (omega arith))

pub rows_columns : (pairs : ℕ) (rows : List Row) → length rows ≡ 2 * pairs → Full rows → row_pairs pairs (columns_of_rows rows) ≡ rows
unfolding columns_of_rows row_pairs
rows_columns zero [] e f = refl
rows_columns zero (r ∷ rows) e f = absurd (omega arith)
rows_columns (suc pairs) [] e f = absurd (omega arith)
rows_columns (suc pairs) (t ∷ []) e f = absurd (omega arith)
rows_columns (suc pairs) (t ∷ b ∷ rows) e (h, (l, f)) =
    let n : length (pair_rows t b) ≡ 1726 = length_over 1726 t b h l in
    rw (take_at (pair_rows t b) (columns_of_rows rows) 1726 n, drop_at (pair_rows t b) (columns_of_rows rows) 1726 n, tops t b (h ∙ sym l), bottoms t b (h ∙ sym l), rows_columns pairs rows (omega arith) f)

pub length_columns : (pairs : ℕ) (rows : List Row) → length rows ≡ 2 * pairs → Full rows → length (columns_of_rows rows) ≡ 1726 * pairs
unfolding columns_of_rows
length_columns zero [] e f = refl
length_columns zero (r ∷ rows) e f = absurd (omega arith)
length_columns (suc pairs) [] e f = absurd (omega arith)
length_columns (suc pairs) (t ∷ []) e f = absurd (omega arith)
length_columns (suc pairs) (t ∷ b ∷ rows) e (h, (l, f)) =
    length-append (pair_rows t b) (columns_of_rows rows) ∙ omega (arith, length_over 1726 t b h l, length_columns pairs rows (omega arith) f)

pub length_pairs : (pairs : ℕ) (cs : List State) → length (row_pairs pairs cs) ≡ 2 * pairs
unfolding row_pairs
length_pairs zero cs = refl
length_pairs (suc pairs) cs = omega (arith, length_pairs pairs (drop 1726 cs))

pub length_bitmap_of : (pairs : ℕ) (cs : List State) → length (bitmap_of pairs cs) ≡ 4 + 216 * (2 * pairs)
unfolding bitmap_of
length_bitmap_of pairs cs = length_bitmap (row_pairs pairs cs) ∙ ap (λ (n : ℕ). 4 + 216 * n) (length_pairs pairs cs)

pub full_pairs : (pairs : ℕ) (cs : List State) → length cs ≡ 1726 * pairs → Full (row_pairs pairs cs)
unfolding row_pairs
full_pairs zero cs e = tt
full_pairs (suc pairs) cs e =
    let n : length (take 1726 cs) ≡ 1726 = length-take-le 1726 cs (omega arith) in
    (length-map (take 1726 cs) top_of ∙ n, (length-map (take 1726 cs) bottom_of ∙ n, full_pairs pairs (drop 1726 cs) (length-drop 1726 cs ∙ omega arith)))

-- ---- a column's pels

-- the pel of a column in row r
abbrev pub pel_in : ℕ → State → Bit
pel_in zero s = top_of s
pel_in (suc zero) s = bottom_of s
pel_in (suc (suc r)) s = pel_in r s

pub pel_white : (r : ℕ) → pel_in r (solid WW) ≡ O
pel_white zero = refl
pel_white (suc zero) = refl
pel_white (suc (suc r)) = pel_white r

pub pel_top : (p r : ℕ) (s : State) → r ≡ 2 * p → pel_in r s ≡ top_of s
pel_top p zero s e = refl
pel_top p (suc zero) s e = absurd (omega arith)
pel_top p (suc (suc r)) s e = pel_top (p - 1) r s (omega arith)

pub pel_bottom : (p r : ℕ) (s : State) → r ≡ 2 * p + 1 → pel_in r s ≡ bottom_of s
pel_bottom p zero s e = absurd (omega arith)
pel_bottom p (suc zero) s e = refl
pel_bottom p (suc (suc r)) s e = pel_bottom (p - 1) r s (omega arith)

first_columns : (cs : List State) (x : ℕ) → x < 1726 → get_or (take 1726 cs) x (solid WW) ≡ get_or cs (0 + x) (solid WW)
first_columns cs x l = get_or-take 1726 cs x (solid WW) l ∙ ap (λ (q : ℕ). get_or cs q (solid WW)) (sym (zero-add x))

pub pel_pairs : (pairs : ℕ) (cs : List State) (r x : ℕ) → r < 2 * pairs → x < 1726 → pel_at (row_pairs pairs cs) r x ≡ pel_in r (get_or cs (1726 * (r / 2) + x) (solid WW))
unfolding row_pairs
pel_pairs zero cs r x h l = absurd (omega arith)
pel_pairs (suc pairs) cs zero x h l = get_or-map top_of (take 1726 cs) x (solid WW) ∙ ap top_of (first_columns cs x l)
pel_pairs (suc pairs) cs (suc zero) x h l = get_or-map bottom_of (take 1726 cs) x (solid WW) ∙ ap bottom_of (first_columns cs x l)
pel_pairs (suc pairs) cs (suc (suc r)) x h l =
    let z : 1726 * (suc (suc r) / 2) + x ≡ 1726 + (1726 * (r / 2) + x) = omega arith in
    pel_pairs pairs (drop 1726 cs) r x (omega arith) l
    ∙ ap (pel_in r) (get_or-drop 1726 cs (1726 * (r / 2) + x) (solid WW) ∙ ap (λ (q : ℕ). get_or cs q (solid WW)) (sym z))

-- the two bits behind a row's pels
pub pel_behind : (pairs : ℕ) (cs : List State) (r x : ℕ) → 1726 ≤ x → pel_at (row_pairs pairs cs) r x ≡ O
unfolding row_pairs
pel_behind zero cs r x h = refl
pel_behind (suc pairs) cs zero x h = get_or-eq_default (map top_of (take 1726 cs)) O (short top_of cs x h)
pel_behind (suc pairs) cs (suc zero) x h = get_or-eq_default (map bottom_of (take 1726 cs)) O (short bottom_of cs x h)
pel_behind (suc pairs) cs (suc (suc r)) x h = pel_behind pairs (drop 1726 cs) r x h

-- ---- the rows of a bitmap

pub length_rows : (bm : List ℕ) (r n : ℕ) → length (rows_from bm r n) ≡ n
unfolding rows_from
length_rows bm r zero = refl
length_rows bm r (suc n) = ap suc (length_rows bm (suc r) n)

pub full_rows : (bm : List ℕ) (r n : ℕ) → Full (rows_from bm r n)
unfolding rows_from
full_rows bm r zero = tt
full_rows bm r (suc n) = (length_bits bm (32 + 1728 * r) 1726, full_rows bm (suc r) n)

pub row_at : (bm : List ℕ) (r n k : ℕ) → k < n → get_or (rows_from bm r n) k [] ≡ bits_from bm (32 + 1728 * (r + k)) 1726
unfolding rows_from
row_at bm r zero k h = absurd (omega arith)
row_at bm r (suc n) zero h = ap (λ (i : ℕ). bits_from bm (32 + 1728 * i) 1726) (sym (add-zero r))
row_at bm r (suc n) (suc k) h = row_at bm (suc r) n k (omega arith) ∙ ap (λ (i : ℕ). bits_from bm (32 + 1728 * i) 1726) (omega arith)

-- rows with the pels of a bitmap, from row r on, are its rows
rows_same : (bm : List ℕ) (r : ℕ) (rows : List Row) → Full rows → ((k x : ℕ) → k < length rows → x < 1726 → bit_at bm (32 + (1728 * (r + k) + x)) ≡ pel_at rows k x) → rows_from bm r (length rows) ≡ rows
unfolding rows_from
rows_same bm r [] f e = refl
rows_same bm r (row ∷ rows) (h, f) e =
    ap₂ (λ (l : Row) (m : List Row). l ∷ m)
    (ext_get_or O (bits_from bm (32 + 1728 * r) 1726) row (length_bits bm (32 + 1728 * r) 1726 ∙ sym h)
    (λ x l. let w : x < 1726 = omega (arith, length_bits bm (32 + 1728 * r) 1726) in bit_at_lem bm (32 + 1728 * r) 1726 x w ∙ ap (bit_at bm) (omega arith) ∙ e zero x (omega arith) w))
    (rows_same bm (suc r) rows f (λ k x l w. ap (bit_at bm) (omega arith) ∙ e (suc k) x (omega arith) w))

pub lines_bitmap : (rows : List Row) → lines_of (bitmap_of_rows rows) ≡ length rows
unfolding bitmap_of_rows
lines_bitmap rows = omega arith

bit_pel : (rows : List Row) (k x : ℕ) → x < 1726 → bit_at (bitmap_of_rows rows) (32 + (1728 * k + x)) ≡ pel_at rows k x
unfolding bit_at
bit_pel rows k x l = ap to_bit (pel_bitmap rows k x (omega arith)) ∙ bit_num_lem (pel_at rows k x)

pub rows_bitmap : RowsBitmap
unfolding rows_of
rows_bitmap rows f =
    ap (rows_from (bitmap_of_rows rows) 0) (lines_bitmap rows)
    ∙ rows_same (bitmap_of_rows rows) 0 rows f (λ k x h l. ap (bit_at (bitmap_of_rows rows)) (omega arith) ∙ bit_pel rows k x l)

pub columns_bitmap : ColumnsBitmap
unfolding columns_of bitmap_of
columns_bitmap pairs cs e = ap columns_of_rows (rows_bitmap (row_pairs pairs cs) (full_pairs pairs cs e)) ∙ columns_rows pairs cs e
