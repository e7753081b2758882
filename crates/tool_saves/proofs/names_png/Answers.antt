-- `tool_saves::names_png` meets its contract. Assumes nothing.
use mathlib.Core.Bool.{Bool, true, false}
use mathlib.Core.Path.{◌≡◌, refl, sym}
use mathlib.Core.List.{List}
use Prim.Native.Nat.{ℕ}
use Rattle.std.specs.Cmp.Lexicographic.{pointwise, same_text, other_text}
use Rattle.std.specs.Prelude.{nat_eq}
use Rattle.basics.proofs.Apart.{differ}
use Rattle.text.specs.Text.{codes}
use Rattle.tool_saves.proofs.names_png.Goals as goal

-- what a comparison of two lists of octets tells
tells : (r : Bool) (xs ys : List ℕ) → r ≡ pointwise nat_eq xs ys → (r ≡ true → ys ≡ xs) × (ys ≡ xs → r ≡ true)
tells true xs ys e = ((λ h. sym (same_text xs ys e)), (λ h. refl))
tells false xs ys e = ((λ h. differ cc), (λ h. absurd (other_text xs ys e (sym h))))

pub returns : goal.returns
unfolding codes
returns c = tells c.ends_with.result _ _ c.ends_with.ensures.value
