-- `listing::put_text` meets its contract, case by case. Assumes nothing.
use mathlib.Core.Path.{refl}
use native.Mathlib.Omega.{arith}
use Rattle.text.specs.Text.{codes}
use Rattle.register.proofs.Setting.{made_allowed}
use Rattle.listing.specs.Listing.{most_file, most_text}
use Rattle.listing.proofs.Lengths.{refused_short}
use Rattle.listing.proofs.Listed.{too_long, not_allowed, whole}
use Rattle.listing.proofs.put_text.Goals as goal

pub put_all-requires : goal.put_all-requires
unfolding most_text
put_all-requires c = omega (arith, c.requires)

pub returns-then-file-gt-MOST_FILE : goal.returns-then-file-gt-MOST_FILE
unfolding most_file codes
returns-then-file-gt-MOST_FILE c = rw (← too_long _ _ c.if-file-gt-MOST_FILE.true) c.put_all.ensures

pub put_refused-requires : goal.put_refused-requires
unfolding most_text
put_refused-requires c = rw c.into.ensures (omega (arith, c.requires, refused_short 0 (omega arith) 20 0 (omega arith) (omega arith)))

pub returns-in-None : goal.returns-in-None
unfolding most_file
returns-in-None c = rw (not_allowed _ _ c.if-file-gt-MOST_FILE.false c.in-None.ensures c.into.ensures refl) at c.put_refused.ensures

pub put_listing-requires : goal.put_listing-requires
unfolding most_file
put_listing-requires c = (c.if-file-gt-MOST_FILE.false, c.requires)

pub returns-in-Some : goal.returns-in-Some
unfolding most_file
returns-in-Some c = rw (whole _ _ c.if-file-gt-MOST_FILE.false (made_allowed c.in-Some.checker c.in-Some.ensures)) at (rw c.in-Some.ensures at c.put_listing.ensures)
