-- Laws of decimal numbers: below 10 one digit, else the digits of the tenth and then the last one, whatever the steps allowed; the digits
-- say the number, are digits, and are few. Assumes nothing.
use mathlib.Core.Path.{◌≡◌, refl, sym, ap, subst, ◌∙◌}
use mathlib.Core.List.{List, [], ◌∷◌, ◌++◌}
use Prim.Native.Nat.{ℕ, zero, suc, ◌+◌, ◌-◌, ◌*◌, ◌/◌, ◌%◌, ◌^◌, ◌<◌, ◌≤◌}
use native.Mathlib.Decide.{dec_lt}
use native.Mathlib.Nat.{div-lt_iff_lt-mul, pow-suc}
use native.Mathlib.Omega.{arith}
use borrow.Author.Tests.{lt-ltb, le-ltb}
use lib.Dec.{lit<}
use lib.ListN.{length, length-append}
use Rattle.text.specs.Text.{codes, digit, digits_in, decimal, digits_value_from}
use Rattle.text.specs.Laws.{DecimalValue}

in_small : (fuel n : ℕ) → n < 10 → digits_in fuel n ≡ digit n ∷ []
unfolding digits_in
in_small zero n h = refl
in_small (suc fuel) n h = rw (lt-ltb n 10 h, digits_in)

in_big : (fuel n : ℕ) → 10 ≤ n → digits_in (suc fuel) n ≡ digits_in fuel (n / 10) ++ (digit (n % 10) ∷ [])
unfolding digits_in
in_big fuel n h = rw (le-ltb n 10 h, digits_in)

-- as many steps as the number are enough
in_same : (f g n : ℕ) → n ≤ f → n ≤ g → digits_in f n ≡ digits_in g n
in_same zero g n h l = in_small zero n (omega arith) ∙ sym (in_small g n (omega arith))
in_same (suc f) zero n h l = in_small (suc f) n (omega arith) ∙ sym (in_small zero n (omega arith))
in_same (suc f) (suc g) n h l = go (dec_lt n 10) (λ b. in_same f g (n / 10) (omega arith) (omega arith))
  where
    go : Dec (n < 10) → (10 ≤ n → digits_in f (n / 10) ≡ digits_in g (n / 10)) → digits_in (suc f) n ≡ digits_in (suc g) n
    go (yes s) e = in_small (suc f) n s ∙ sym (in_small (suc g) n s)
    go (no b) e = in_big f n (omega arith) ∙ ap (λ (ds : List ℕ). ds ++ (digit (n % 10) ∷ [])) (e (omega arith)) ∙ sym (in_big g n (omega arith))

pub decimal_small : (n : ℕ) → n < 10 → decimal n ≡ digit n ∷ []
unfolding decimal
decimal_small n h = in_small n n h

pub decimal_big : (n : ℕ) → 10 ≤ n → decimal n ≡ decimal (n / 10) ++ (digit (n % 10) ∷ [])
unfolding decimal
decimal_big zero h = absurd (omega arith)
decimal_big (suc m) h =
    in_big m (suc m) h ∙ ap (λ (ds : List ℕ). ds ++ (digit (suc m % 10) ∷ [])) (in_same m (suc m / 10) (suc m / 10) (omega arith) (omega arith))

pub big_length : (n : ℕ) → 10 ≤ n → length (decimal n) ≡ length (decimal (n / 10)) + 1
big_length n h = ap length (decimal_big n h) ∙ length-append (decimal (n / 10)) (digit (n % 10) ∷ [])

-- what holds of one digit, and with the digits of a tenth also with one more, holds of every number's digits
pub decimal_ind : (P : ℕ → List ℕ → Type 0) → ((n : ℕ) → n < 10 → P n (digit n ∷ []))
    → ((n : ℕ) → 10 ≤ n → P (n / 10) (decimal (n / 10)) → P n (decimal (n / 10) ++ (digit (n % 10) ∷ []))) → (n : ℕ) → P n (decimal n)
decimal_ind P one more n = within n n (omega arith)
  where
    step : (n : ℕ) → Dec (n < 10) → (10 ≤ n → P (n / 10) (decimal (n / 10))) → P n (decimal n)
    step n (yes s) p = subst (P n) (sym (decimal_small n s)) (one n s)
    step n (no b) p = subst (P n) (sym (decimal_big n (omega arith))) (more n (omega arith) (p (omega arith)))

    within : (fuel n : ℕ) → n ≤ fuel → P n (decimal n)
    within zero n h = step n (dec_lt n 10) (λ b. absurd (omega arith))
    within (suc fuel) n h = step n (dec_lt n 10) (λ b. within fuel (n / 10) (omega arith))

-- ---- the digits say the number

pub said_last : (v : ℕ) (ds : List ℕ) (d : ℕ) → digits_value_from v (ds ++ (d ∷ [])) ≡ 10 * digits_value_from v ds + (d - 48)
unfolding digits_value_from
said_last v [] d = refl
said_last v (e ∷ ds) d = said_last (10 * v + (e - 48)) ds d

pub decimal_value : DecimalValue
unfolding digits_value_from
decimal_value = decimal_ind (λ n ds. digits_value_from 0 ds ≡ n) one more
  where
    one : (n : ℕ) → n < 10 → digits_value_from 0 (digit n ∷ []) ≡ n
    one n h = omega arith

    more : (n : ℕ) → 10 ≤ n → digits_value_from 0 (decimal (n / 10)) ≡ n / 10 → digits_value_from 0 (decimal (n / 10) ++ (digit (n % 10) ∷ [])) ≡ n
    more n h e = said_last 0 (decimal (n / 10)) (digit (n % 10)) ∙ omega arith

-- ---- how many digits

-- a number below 10 ^ k has at most k digits, and at least one
pub few_digits : (n k : ℕ) → n < 10 ^ k → 1 ≤ k → length (decimal n) ≤ k
few_digits = decimal_ind (λ n ds. (k : ℕ) → n < 10 ^ k → 1 ≤ k → length ds ≤ k) (λ n h k s l. l) more
  where
    more : (n : ℕ) → 10 ≤ n → ((k : ℕ) → n / 10 < 10 ^ k → 1 ≤ k → length (decimal (n / 10)) ≤ k)
        → (k : ℕ) → n < 10 ^ k → 1 ≤ k → length (decimal (n / 10) ++ (digit (n % 10) ∷ [])) ≤ k
    more n h f zero s l = absurd (omega arith)
    more n h f (suc zero) s l = absurd (omega arith)
    more n h f (suc (suc k)) s l =
        let z : n < 10 ^ suc k * 10 = rw (pow-suc 10 (suc k)) at s in
        omega (arith, length-append (decimal (n / 10)) (digit (n % 10) ∷ []), f (suc k) ((div-lt_iff_lt-mul (lit< tt)).1 z) (omega arith))

pub some_digits : (n : ℕ) → 1 ≤ length (decimal n)
some_digits = decimal_ind (λ n ds. 1 ≤ length ds) (λ n h. omega arith) (λ n h l. omega (arith, length-append (decimal (n / 10)) (digit (n % 10) ∷ [])))

-- ---- two numbers and a text

examples : (decimal 0 ≡ codes "0") × (decimal 1726 ≡ codes "1726") × (codes "P4\n" ≡ 80 ∷ 52 ∷ 10 ∷ [])
unfolding codes decimal digits_in
examples = (refl, refl, refl)
