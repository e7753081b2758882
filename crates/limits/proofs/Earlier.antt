-- The limit of the earlier installations is no larger than this one's. Assumes nothing.
use Prim.Native.Nat.{◌≤◌}
use lib.Dec.{lit≤}
use Rattle.bitmap.specs.Validity.{most_lines}
use Rattle.limits.specs.Earlier.{earlier_limit, EarlierPages, NewPages}
use Rattle.limits.proofs.Limits.{all_kept, all_new_refused}

earlier : earlier_limit ≤ most_lines
unfolding earlier_limit most_lines
earlier = lit≤ tt

pub earlier_pages : EarlierPages
earlier_pages = all_kept earlier_limit most_lines earlier

pub new_pages : NewPages
new_pages = all_new_refused earlier_limit most_lines earlier
