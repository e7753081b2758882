-- What an allowed setting gives. Assumes nothing.
use mathlib.Core.Path.{◌≡◌, refl, sym, subst, ◌∙◌}
use mathlib.Core.Bool.{Bool, true, false, ◌&&◌, ◌||◌}
use Prim.Native.Nat.{ℕ, ◌%◌, ◌<◌, ◌≤◌}
use native.Mathlib.Omega.{arith}
use lib.Dec.{eqb, ltb}
use borrow.Author.Tests.{eqb-true, ltb-true}
use Rattle.basics.proofs.Apart.{differ}
use Rattle.std.specs.Prelude.{Option, Some, None, IsSome, MatchOption}
use Rattle.register.specs.declared.Check.{Check}
use Rattle.register.specs.declared.Checker.{Checker}
use Rattle.register.specs.Setting.{allowed_check}

pub record Allowed (c : Check) : Type 0 where
  pub generator : c.generator < 4096
  pub start : c.start < 4096
  pub first : c.first ≤ 24
  pub octet : c.first % 8 ≡ 0

pub left : (a b : Bool) → a && b ≡ true → a ≡ true
left true b e = refl
left false b e = e

pub right : (a b : Bool) → a && b ≡ true → b ≡ true
right true b e = e
right false b e = differ cc

first_bit : (n : ℕ) (a b : Bool) → eqb n 0 ≡ a → eqb n 24 ≡ b → a || b ≡ true → (n ≤ 24) × (n % 8 ≡ 0)
first_bit n true b e f t = let z : n ≡ 0 = eqb-true _ _ e in rw z (omega arith)
first_bit n false true e f t = let z : n ≡ 24 = eqb-true _ _ f in rw z (omega arith)
first_bit n false false e f t = differ cc

pub allowed : (c : Check) → allowed_check c ≡ true → Allowed c
unfolding allowed_check
allowed c e =
    let r = right (eqb (c.generator % 2) 1) _ e in
    let s = right (ltb c.generator 4096) _ r in
    let f = first_bit c.first _ _ refl refl (right (ltb c.start 4096) _ s) in
    record {
      generator = ltb-true _ _ (left (ltb c.generator 4096) _ r);
      start = ltb-true _ _ (left (ltb c.start 4096) _ s);
      first = f.0;
      octet = f.1;
    }

-- ---- the checker of a setting

abbrev Made : Check → Option Checker → Type 0
Made c r = MatchOption r (allowed_check c ≡ false) (λ checker. checker.setting ≡ c)

-- of an allowed setting there is one
pub made : (c : Check) (r : Option Checker) → Made c r → allowed_check c ≡ true → IsSome r
made c None h e = let z : false ≡ true = sym h ∙ e in differ cc
made c (Some x) h e = refl

-- and it has that setting
pub made_of : (c : Check) (r : Option Checker) {x : Checker} → Made c r → r ≡ Some x → x.setting ≡ c
made_of c r {x} h e = let k : Made c (Some x) = subst (Made c) e h in k

pub made_allowed : {c : Check} (x : Checker) → x.setting ≡ c → allowed_check c ≡ true
made_allowed x e = subst (λ (c : Check). allowed_check c ≡ true) e x.is_allowed
