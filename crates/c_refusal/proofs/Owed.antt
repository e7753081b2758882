-- What a C call owes, from what the call behind it owes; and that a refusal fits the number that C gets. Assumes nothing.
use mathlib.Core.Path.{◌≡◌, refl, sym, ap, subst, ◌∙◌}
use mathlib.Core.List.{List}
use Prim.Native.Nat.{ℕ, ◌/◌, ◌%◌, ◌^◌, ◌<◌}
use native.Mathlib.Omega.{arith}
use Rattle.refusal.specs.declared.Reason.{Reason}
use Rattle.refusal.specs.Number.{number_of}
use Rattle.refusal.specs.Fault.{GoesWith}
use Rattle.refusal.specs.Reply.{Reply, gives, refuses_at, SmallPlace, Outcome}
use Rattle.refusal.specs.Demand1.{Listed, Owed}
use Rattle.refusal.proofs.Numbers.{number_small, number_some}
use Rattle.c_refusal.specs.Returned.{code, returned, OwedToC}

-- the number and the bit in what is returned
told : (n k b : ℕ) → Listed n → b < 512 → (code n k b % 256 ≡ n) × (code n k b / 256 % 65536 ≡ b)
told n k b l h = let s = number_small l.0 in (omega (arith, l.1), omega (arith, l.1))

told_number : (n k b : ℕ) → Listed n → GoesWith b n → Listed (code n k b % 256) × GoesWith (code n k b / 256 % 65536) (code n k b % 256)
told_number n k b l g = let e = told n k b l g.1 in rw (e.0, e.1) (l, g)

not_0 : (n k b : ℕ) → Listed n → code n k b ≡ 0 → ⊥
not_0 n k b l e = let h = number_some l.0 in omega (arith, l.1)

pub owed_number : {A : Type 0} (reason : Reason) (o : List A) (answer : List ℕ) → OwedToC o answer (number_of reason, o, answer)
owed_number reason o answer =
    let s = number_small reason in
    let e : number_of reason % 256 ≡ number_of reason = omega arith in
    let d : number_of reason / 256 % 65536 ≡ 0 = omega arith in
    ((λ n. rw (d, e) ((reason, refl), (λ n. refl, omega arith), refl, refl)), λ z. absurd (let h = number_some reason in omega arith))

pub owed_returned : {B A : Type 0} (numbers : B → List ℕ) (x : Outcome B A) (o : List A) (answer : List ℕ) → Owed o x → OwedToC o answer (returned numbers x answer)
owed_returned numbers (gives v, p) o answer h = ((λ n. absurd (n refl)), λ z. h)
owed_returned numbers (refuses_at n k b, p) o answer h =
    let e = told_number n k b h.0 h.1 in ((λ z. (e.0, e.1, h.3, refl)), λ z. absurd (not_0 n k b h.0 z))

-- a call's refusal has a small place, where its reply has
pub small_refusal : {B A : Type 0} {x : Reply B} {p : List A} {y : Outcome B A} {n k b : ℕ} → (x, p) ≡ y → SmallPlace y.0 → x ≡ refuses_at n k b → (k < 2 ^ 40) × (b < 512)
small_refusal {B} {A} {x} {p} {y} e h g = subst (λ (r : Reply B). SmallPlace r) (ap (λ (z : Outcome B A). z.0) (sym e) ∙ g) h
