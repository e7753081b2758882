-- The context that a step leaves: lengths by the field length rule, which stay from 2 to 7, and X moved on. Assumes nothing.
use mathlib.Core.Path.{◌≡◌, refl}
use Prim.Native.Nat.{ℕ, suc, pred, ◌≤◌}
use native.Mathlib.Omega.{arith}
use Rattle.state.specs.declared.Solid.{Solid}
use Rattle.state.specs.declared.Solid.TheVariants.{WW, BB}
use Rattle.position.specs.Position.{x_after}
use Rattle.position.proofs.Positions.{x_after_small}
use Rattle.diagram.specs.declared.Lengths.{Lengths}
use Rattle.diagram.specs.declared.Context.{Context}
use Rattle.field_length.specs.declared.Nth.{Nth}
use Rattle.field_length.specs.FieldLength.{length_after_ones, length_after_closing}
use Rattle.diagram.specs.Diagram.{length_of, with_length, ValidLengths, ValidContext, after_columns, longer, closed}
use Rattle.diagram.specs.Laws.{ValidAfterMove, ValidLonger, ValidClosed}
use Rattle.field_length.proofs.Rule.{after_ones_within, after_closing_within}

pub longer_is : (s : Solid) (v : ℕ) (c : Context) (l : Lengths) (n g : ℕ) → l ≡ with_length s g c.lengths → g ≡ length_after_ones n → n ≡ length_of s c.lengths → after_columns v l c ≡ longer s v c
unfolding longer
longer_is s v c l n g e f h = rw (e, f, h) refl

pub closed_is : (k : Nth) (s : Solid) (v : ℕ) (c : Context) (l : Lengths) (n g : ℕ) → l ≡ with_length s g c.lengths → g ≡ length_after_closing k n v (x_after c.x v) → n ≡ length_of s c.lengths → after_columns v l c ≡ closed k s v c
unfolding closed
closed_is k s v c l n g e f h = rw (e, f, h) refl

-- ---- lengths stay from 2 to 7, and X from 0 to 1725

pub length_within : (s : Solid) (c : Context) → ValidContext c → (2 ≤ length_of s c.lengths) × (length_of s c.lengths ≤ 7)
length_within WW c v = (v.lengths.white_low, v.lengths.white_high)
length_within BB c v = (v.lengths.black_low, v.lengths.black_high)

pub valid_length : (s : Solid) (c : Context) → ValidContext c → suc (pred (length_of s c.lengths)) ≡ length_of s c.lengths
valid_length s c v = let h = length_within s c v in omega arith

valid_with : (s : Solid) (n : ℕ) (l : Lengths) → ValidLengths l → (2 ≤ n) × (n ≤ 7) → ValidLengths (with_length s n l)
valid_with WW n l v h = record { black_low = v.black_low; black_high = v.black_high; white_low = h.0; white_high = h.1 }
valid_with BB n l v h = record { black_low = h.0; black_high = h.1; white_low = v.white_low; white_high = v.white_high }

pub valid_after_columns : (n : ℕ) (l : Lengths) (c : Context) → ValidLengths l → ValidContext (after_columns n l c)
valid_after_columns n l c v = record { lengths = v; column = x_after_small c.x n }

pub valid_after_move : ValidAfterMove
valid_after_move c v = valid_after_columns 1 c.lengths c v.lengths

pub valid_longer : ValidLonger
unfolding longer
valid_longer s v c h =
    let n : ℕ = length_after_ones (length_of s c.lengths) in
    valid_after_columns v (with_length s n c.lengths) c (valid_with s n c.lengths h.lengths (after_ones_within (length_of s c.lengths) (length_within s c h).0))

pub valid_closed : ValidClosed
unfolding closed
valid_closed k s v c h =
    let b = length_within s c h in
    let n : ℕ = length_after_closing k (length_of s c.lengths) v (x_after c.x v) in
    valid_after_columns v (with_length s n c.lengths) c (valid_with s n c.lengths h.lengths (after_closing_within k (length_of s c.lengths) v (x_after c.x v) b.0 b.1))
