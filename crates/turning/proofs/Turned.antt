-- The turning table: each entry is the complement of its reversed index, and turning is its own inverse.
-- Both are one test over the whole table, which the checker computes. Assumes nothing.
use mathlib.Core.Path.{◌≡◌, refl, sym, ap, subst, ◌∙◌}
use mathlib.Core.List.{List, [], ◌∷◌}
use mathlib.Core.Bool.{Bool}
use Prim.Native.Nat.{ℕ, zero, suc, ◌+◌, ◌<◌}
use native.Mathlib.Nat.{add-zero, add-suc, suc-add, zero-add}
use native.Mathlib.Omega.{arith}
use lib.Dec.{T, eqb, eqb→eq}
use lib.ListN.{get_or, length}
use lib.Seq.{ext_get_or}
use Rattle.basics.specs.Octets.{Octets}
use Rattle.turning.specs.Turned.{turned_of, turned_from}
use Rattle.basics.proofs.Table.{both, both_left, both_right, at}

-- the table of the source
unfoldable pub entries : List ℕ
entries =
    255 ∷ 127 ∷ 191 ∷ 63 ∷ 223 ∷ 95 ∷ 159 ∷ 31 ∷ 239 ∷ 111 ∷ 175 ∷ 47 ∷ 207 ∷ 79 ∷ 143 ∷ 15 ∷
    247 ∷ 119 ∷ 183 ∷ 55 ∷ 215 ∷ 87 ∷ 151 ∷ 23 ∷ 231 ∷ 103 ∷ 167 ∷ 39 ∷ 199 ∷ 71 ∷ 135 ∷ 7 ∷
    251 ∷ 123 ∷ 187 ∷ 59 ∷ 219 ∷ 91 ∷ 155 ∷ 27 ∷ 235 ∷ 107 ∷ 171 ∷ 43 ∷ 203 ∷ 75 ∷ 139 ∷ 11 ∷
    243 ∷ 115 ∷ 179 ∷ 51 ∷ 211 ∷ 83 ∷ 147 ∷ 19 ∷ 227 ∷ 99 ∷ 163 ∷ 35 ∷ 195 ∷ 67 ∷ 131 ∷ 3 ∷
    253 ∷ 125 ∷ 189 ∷ 61 ∷ 221 ∷ 93 ∷ 157 ∷ 29 ∷ 237 ∷ 109 ∷ 173 ∷ 45 ∷ 205 ∷ 77 ∷ 141 ∷ 13 ∷
    245 ∷ 117 ∷ 181 ∷ 53 ∷ 213 ∷ 85 ∷ 149 ∷ 21 ∷ 229 ∷ 101 ∷ 165 ∷ 37 ∷ 197 ∷ 69 ∷ 133 ∷ 5 ∷
    249 ∷ 121 ∷ 185 ∷ 57 ∷ 217 ∷ 89 ∷ 153 ∷ 25 ∷ 233 ∷ 105 ∷ 169 ∷ 41 ∷ 201 ∷ 73 ∷ 137 ∷ 9 ∷
    241 ∷ 113 ∷ 177 ∷ 49 ∷ 209 ∷ 81 ∷ 145 ∷ 17 ∷ 225 ∷ 97 ∷ 161 ∷ 33 ∷ 193 ∷ 65 ∷ 129 ∷ 1 ∷
    254 ∷ 126 ∷ 190 ∷ 62 ∷ 222 ∷ 94 ∷ 158 ∷ 30 ∷ 238 ∷ 110 ∷ 174 ∷ 46 ∷ 206 ∷ 78 ∷ 142 ∷ 14 ∷
    246 ∷ 118 ∷ 182 ∷ 54 ∷ 214 ∷ 86 ∷ 150 ∷ 22 ∷ 230 ∷ 102 ∷ 166 ∷ 38 ∷ 198 ∷ 70 ∷ 134 ∷ 6 ∷
    250 ∷ 122 ∷ 186 ∷ 58 ∷ 218 ∷ 90 ∷ 154 ∷ 26 ∷ 234 ∷ 106 ∷ 170 ∷ 42 ∷ 202 ∷ 74 ∷ 138 ∷ 10 ∷
    242 ∷ 114 ∷ 178 ∷ 50 ∷ 210 ∷ 82 ∷ 146 ∷ 18 ∷ 226 ∷ 98 ∷ 162 ∷ 34 ∷ 194 ∷ 66 ∷ 130 ∷ 2 ∷
    252 ∷ 124 ∷ 188 ∷ 60 ∷ 220 ∷ 92 ∷ 156 ∷ 28 ∷ 236 ∷ 108 ∷ 172 ∷ 44 ∷ 204 ∷ 76 ∷ 140 ∷ 12 ∷
    244 ∷ 116 ∷ 180 ∷ 52 ∷ 212 ∷ 84 ∷ 148 ∷ 20 ∷ 228 ∷ 100 ∷ 164 ∷ 36 ∷ 196 ∷ 68 ∷ 132 ∷ 4 ∷
    248 ∷ 120 ∷ 184 ∷ 56 ∷ 216 ∷ 88 ∷ 152 ∷ 24 ∷ 232 ∷ 104 ∷ 168 ∷ 40 ∷ 200 ∷ 72 ∷ 136 ∷ 8 ∷
    240 ∷ 112 ∷ 176 ∷ 48 ∷ 208 ∷ 80 ∷ 144 ∷ 16 ∷ 224 ∷ 96 ∷ 160 ∷ 32 ∷ 192 ∷ 64 ∷ 128 ∷ 0 ∷ []

-- entry x at place k is what k is turned to, and is turned to k
right : ℕ → ℕ → Bool
unfolding turned_of
right k x = both (eqb x (turned_of k)) (eqb (turned_of x) k)

all_right : (k : ℕ) → k < 256 → T (right k (get_or entries k 0))
unfolding entries right
all_right k h = at right entries tt k h

pub entry : (k : ℕ) → k < 256 → get_or entries k 0 ≡ turned_of k
unfolding right
entry k h = eqb→eq (get_or entries k 0) (turned_of k) (both_left (eqb (get_or entries k 0) (turned_of k)) (eqb (turned_of (get_or entries k 0)) k) (all_right k h))

-- Turning is its own inverse.
pub turned_turned : (x : ℕ) → x < 256 → turned_of (turned_of x) ≡ x
unfolding right
turned_turned x h =
    subst (λ (y : ℕ). turned_of y ≡ x) (entry x h)
    (eqb→eq (turned_of (get_or entries x 0)) x (both_right (eqb (get_or entries x 0) (turned_of x)) (eqb (turned_of (get_or entries x 0)) x) (all_right x h)))

pub turned_lt : (x : ℕ) → turned_of x < 256
unfolding turned_of
turned_lt x = omega arith

-- ---- octets turned

pub length_turned : (s : List ℕ) (i n : ℕ) → length (turned_from s i n) ≡ n
unfolding turned_from
length_turned s i zero = refl
length_turned s i (suc n) = ap suc (length_turned s (suc i) n)

pub at_turned : (s : List ℕ) (i n k : ℕ) → k < n → get_or (turned_from s i n) k 0 ≡ turned_of (get_or s (i + k) 0)
unfolding turned_from
at_turned s i zero k h = absurd (omega arith)
at_turned s i (suc n) zero h = rw (add-zero i)
at_turned s i (suc n) (suc k) h = rw (add-suc i k, ← suc-add i k) (at_turned s (suc i) n k (omega arith))

-- Octets turned twice are the octets.
pub turned_back : (s : List ℕ) (n : ℕ) → length s ≡ n → Octets s → turned_from (turned_from s 0 n) 0 n ≡ s
turned_back s n e h =
    ext_get_or 0 (turned_from (turned_from s 0 n) 0 n) s (length_turned _ 0 n ∙ sym e) λ k l.
    let m : k < n = rw (length_turned (turned_from s 0 n) 0 n) at l in
    at_turned (turned_from s 0 n) 0 n k m ∙ rw (zero-add k) (rw (at_turned s 0 n k m, zero-add k) (turned_turned (get_or s k 0) (h k)))
