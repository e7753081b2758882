-- `listing::list` meets its contract: the text is put together beside the output, and copied where it has room. Assumes nothing.
use mathlib.Core.Path.{◌≡◌, refl, sym, ap, ◌∙◌}
use Prim.Native.Nat.{◌≤◌}
use native.Mathlib.Nat.{zero-add}
use native.Mathlib.Omega.{arith}
use lib.ListN.{length}
use lib.Seq.{length-take-le}
use Rattle.basics.proofs.Writing.{room_left, since_written}
use Rattle.listing.specs.Listing.{most_text, listing}
use Rattle.listing.proofs.Listed.{any_short, text_written, too_short}
use Rattle.listing.proofs.list.Goals.{After-put_text, After-since}
use Rattle.listing.proofs.list.Goals as goal

pub put_text-requires : goal.put_text-requires
unfolding most_text
put_text-requires c = omega arith

-- the text has room beside the output
prefix : (c : After-put_text) → c.put_text.new.out.at ≤ length c.put_text.new.out.items.now
unfolding most_text
prefix c =
    let h : _ = any_short c.args.c c.args.file.now in
    omega (arith, room_left 0 (omega arith) c.put_text.ensures)

long : (c : After-put_text) → c.put_text.new.out.at ≡ length (listing c.args.c c.args.file.now)
long c = c.put_text.ensures.at ∙ zero-add _

-- it is what is copied
held : (c : After-since) → c.since.result.now ≡ listing c.args.c c.args.file.now
held c = c.since.ensures ∙ since_written (omega arith) c.put_text.ensures

pub since-requires : goal.since-requires
since-requires c = (omega arith, prefix (goal.at.since-requires c).After-put_text)

pub copy_from_slice-requires : goal.copy_from_slice-requires
copy_from_slice-requires c =
    let g : _ = goal.at.copy_from_slice-requires c in
    length-take-le _ _ (omega (arith, c.if-n-out.false)) ∙ long g.After-put_text ∙ sym (ap length (held g.After-since))

pub returns-then-n-out : goal.returns-then-n-out
returns-then-n-out c = too_short _ _ _ (long (goal.at.returns-then-n-out c).After-put_text) c.if-n-out.true (rw c.into.ensures refl)

pub returns : goal.returns
returns c =
    let g : _ = goal.at.returns c in
    text_written _ _ _ (long g.After-put_text) (c.copy_from_slice.ensures.after ∙ held g.After-since) (omega (arith, c.if-n-out.false)) refl
