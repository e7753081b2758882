-- `bitmap_lay::clear` meets its contract. Assumes nothing.
use mathlib.Core.Path.{ap, ◌∙◌}
use mathlib.Core.List.{List}
use Prim.Native.Nat.{ℕ}
use native.Mathlib.Omega.{arith}
use lib.ListN.{length}
use Rattle.basics.specs.Placed.{placed}
use Rattle.bitmap.specs.Form.{sizes}
use Rattle.bitmap.proofs.Pels.{most_small}
use Rattle.bitmap.proofs.White.{white_page}
use Rattle.bitmap_lay.proofs.clear.Goals as goal

pub put_sizes-requires : goal.put_sizes-requires
put_sizes-requires c = (omega (arith, c.fill.ensures.len, c.requires.0), omega (arith, most_small))

pub returns : goal.returns
returns c =
    let a : _ = c.args in
    c.put_sizes.ensures ∙ ap (λ (l : List ℕ). placed 0 (sizes a.lines) l) (c.fill.ensures.after (λ y h. h)) ∙ white_page (length a.out.now) a.lines (omega (arith, c.requires.0))
