-- Lists of steps end to end: their bits and their columns. Assumes nothing.
use mathlib.Core.Path.{◌≡◌, refl, ◌∙◌, ap}
use mathlib.Core.List.{List, [], ◌∷◌, ◌++◌, append_assoc}
use Prim.Native.Nat.{◌+◌}
use lib.ListN.{length, length-append}
use Rattle.diagram.specs.Diagram.{Step, step_bits, lays, columns}
use Rattle.units.specs.Units.{bits_of_steps}

pub codes_append : (xs ys : List Step) → bits_of_steps (xs ++ ys) ≡ bits_of_steps xs ++ bits_of_steps ys
unfolding bits_of_steps
codes_append [] ys = refl
codes_append (x ∷ xs) ys = rw (codes_append xs ys, append_assoc (step_bits x) (bits_of_steps xs) (bits_of_steps ys))

pub columns_append : (xs ys : List Step) → columns (xs ++ ys) ≡ columns xs ++ columns ys
unfolding columns
columns_append [] ys = refl
columns_append (x ∷ xs) ys = rw (columns_append xs ys, append_assoc (lays x) (columns xs) (columns ys))

pub length_codes : (xs ys : List Step) → length (bits_of_steps (xs ++ ys)) ≡ length (bits_of_steps xs) + length (bits_of_steps ys)
length_codes xs ys = ap length (codes_append xs ys) ∙ length-append (bits_of_steps xs) (bits_of_steps ys)

pub length_columns : (xs ys : List Step) → length (columns (xs ++ ys)) ≡ length (columns xs) + length (columns ys)
length_columns xs ys = ap length (columns_append xs ys) ∙ length-append (columns xs) (columns ys)
