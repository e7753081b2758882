-- Laws of the field length rule, shown once for any length: it stays from 2 to 7, and the amortised cost of its words. Assumes nothing.
use mathlib.Core.Path.{◌≡◌, refl}
use mathlib.Core.Bool.{Bool, true, false, cond}
use Prim.Native.Nat.{ℕ, zero, suc, ◌+◌, ◌*◌, ◌-◌, ◌/◌, ◌^◌, ◌≤◌}
use native.Mathlib.Omega.{arith}
use lib.Dec.{eqb, ltb, leb-suc-zero}
use borrow.Author.Tests.{ltb-false}
use Rattle.position.specs.Position.{last_column}
use Rattle.field_length.specs.declared.Nth.{Nth}
use Rattle.field_length.specs.declared.Nth.TheVariants.{First, Later}
use Rattle.field_length.specs.FieldLength.{length_after_ones, tested, limit_of, length_after_closing}
use Rattle.field_length.specs.Laws.{AfterOnesWithin, AfterClosingWithin}

pub after_ones_within : AfterOnesWithin
unfolding length_after_ones
after_ones_within n h = (omega arith, omega arith)

-- 2 does not fall, since no value is below its limit
fallen : (t : Bool) (n : ℕ) → 3 ≤ n → n ≤ 7 → (2 ≤ cond t (n - 1) n) × (cond t (n - 1) n ≤ 7)
fallen true n h k = omega arith
fallen false n h k = omega arith

-- whether it is tested or not
within : (t : Bool) (n v : ℕ) → 2 ≤ n → n ≤ 7 → (2 ≤ cond t (cond (ltb v (limit_of n)) (n - 1) n) n) × (cond t (cond (ltb v (limit_of n)) (n - 1) n) n ≤ 7)
unfolding limit_of
within false n v h k = (h, k)
within true zero v h k = omega arith
within true (suc zero) v h k = omega arith
within true (suc (suc zero)) v h k = rw (leb-suc-zero v) (omega arith)
within true (suc (suc (suc n))) v h k = fallen (ltb v (limit_of (suc (suc (suc n))))) (suc (suc (suc n))) (omega arith) k

pub after_closing_within : AfterClosingWithin
unfolding length_after_closing
after_closing_within word n v x h k = within (tested word x) n v h k

-- ---- amortised cost: at most 4 bits a column. A word that lays few columns has the length fall, and the potential with it

-- the potential of a length from 2 to 7: 0, 0, 1, 3, 6, 10
pub potential : ℕ → ℕ
potential n = (n - 2) * (n - 3) / 2

-- the credit before a run's first word, and before a later one, which follows an all-ones word
abbrev pub credit_at : Nth → ℕ
credit_at First = 3
credit_at Later = 7

-- 4 bits a column pay for an all-ones word and the longer field, and for a closing word whether the length falls or not
pub record Pays (n : ℕ) : Type 0 where
  pub ones : n + (credit_at Later + potential (length_after_ones n)) ≤ 4 * (2 ^ n - 1) + (credit_at First + potential n)
  pub falls : n + potential (n - 1) ≤ 3 + potential n
  pub stays : n ≤ 4 * limit_of n + 3
  pub few : n ≤ 7
  pub most : potential n ≤ 10

pub pays : (n : ℕ) → 2 ≤ n → n ≤ 7 → Pays n
unfolding potential length_after_ones limit_of
pays zero h g = absurd (omega arith)
pays (suc zero) h g = absurd (omega arith)
pays (suc (suc zero)) h g = omega arith
pays (suc (suc (suc zero))) h g = omega arith
pays (suc (suc (suc (suc zero)))) h g = omega arith
pays (suc (suc (suc (suc (suc zero))))) h g = omega arith
pays (suc (suc (suc (suc (suc (suc zero)))))) h g = omega arith
pays (suc (suc (suc (suc (suc (suc (suc zero))))))) h g = omega arith
pays (suc (suc (suc (suc (suc (suc (suc (suc n)))))))) h g = absurd (omega arith)

-- a word that is tested pays with the credit of a run's first; one that is not is a later one
pub closed_pays : {n : ℕ} (k : Nth) (v x : ℕ) → Pays n → n + potential (length_after_closing k n v x) ≤ 4 * v + (credit_at k + potential n)
unfolding length_after_closing
closed_pays {n} k v x p = go k (eqb x last_column) refl
  where
    falls : (t : Bool) → ltb v (limit_of n) ≡ t → n + potential (cond t (n - 1) n) ≤ 4 * v + (3 + potential n)
    falls true e = omega (arith, p.falls)
    falls false e = omega (arith, p.stays, ltb-false v (limit_of n) e)

    go : (k : Nth) (edge : Bool) → eqb x last_column ≡ edge → n + potential (cond (tested k x) (cond (ltb v (limit_of n)) (n - 1) n) n) ≤ 4 * v + (credit_at k + potential n)
    go First edge e = falls (ltb v (limit_of n)) refl
    go Later true e = rw e (omega (arith, falls (ltb v (limit_of n)) refl))
    go Later false e = rw e (omega (arith, p.few))
