-- `text::put_named` meets its contract: the word is written, and then the number. Assumes nothing.
use mathlib.Core.Path.{refl}
use mathlib.Core.List.{◌++◌}
use native.Mathlib.Omega.{arith}
use Rattle.basics.proofs.Writing.{Left, left_all, left_room, left_rest, left_on, left_end}
use Rattle.text.specs.Text.{decimal}
use Rattle.text.proofs.put_named.Goals as goal
use Rattle.text.proofs.put_named.Goals.{After-put_all}

pub put_all-requires : goal.put_all-requires
put_all-requires c = left_room (left_all c.args.out.now c.requires refl) c.args.name.now (decimal c.args.n) refl

-- the number is left
number : (c : After-put_all) → Left (c.args.name.now ++ decimal c.args.n) c.args.out.now (decimal c.args.n) c.put_all.new.self
number c = left_on (left_all c.args.out.now c.requires refl) _ refl c.put_all.ensures

pub put_decimal-requires : goal.put_decimal-requires
put_decimal-requires c = omega (arith, left_rest (number (goal.at.put_decimal-requires c).After-put_all), c.put_all.ensures.at)

pub returns : goal.returns
returns c = left_end (number (goal.at.returns c).After-put_all) c.put_decimal.ensures
