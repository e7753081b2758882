-- What writing a bitmap as a file answers, by the judging of the bitmap and of the room. Assumes nothing.
use mathlib.Core.Path.{◌≡◌, refl}
use mathlib.Core.List.{List}
use Prim.Native.Nat.{ℕ, ◌<◌, ◌≤◌}
use lib.ListN.{length}
use Rattle.basics.specs.Placed.{at_front}
use Rattle.refusal.specs.declared.Reason.{Reason}
use Rattle.refusal.specs.Number.{number_of}
use Rattle.refusal.specs.Reply.{gives, refuses, valid}
use Rattle.refusal.proofs.Replies.{with_room, no_room}
use Rattle.bitmap.specs.Validity.{bitmap_validity}
use Rattle.printing.specs.Saved.{saved_within, saved}
use Rattle.std.specs.Prelude.{Err}

module _ (bm file o : List ℕ) where
  pub saved_invalid : {reason : Reason} → bitmap_validity bm ≡ Err reason → (refuses (number_of reason) 0, o) ≡ saved bm file o
  unfolding saved_within
  saved_invalid e = rw e refl

  module _ (e : bitmap_validity bm ≡ valid) where
    pub saved_short : length o < length file → (refuses 16 0, o) ≡ saved bm file o
    unfolding saved_within
    saved_short l = rw e (no_room _ 0 file o l)

    pub saved_whole : length file ≤ length o → (gives (length file), at_front file o) ≡ saved bm file o
    unfolding saved_within
    saved_whole l = rw e (with_room _ 0 file o l)
