-- What the next frame tells: the frames from a place on are that frame and those behind it, and it has room. Assumes nothing.
use mathlib.Core.Path.{◌≡◌, ap, ◌∙◌, subst}
use mathlib.Core.List.{List, [], ◌∷◌}
use Prim.Native.Nat.{ℕ, ◌+◌, ◌*◌, ◌-◌, ◌<◌, ◌≤◌}
use native.Mathlib.Nat.{sub-zero}
use lib.ListN.{length}
use Rattle.register.specs.declared.Check.{Check}
use Rattle.capture.specs.declared.Place.{Place}
use Rattle.capture.specs.Frames.{bit_of, taken_from, frames_in}
use Rattle.capture.proofs.Found.{taken_head}
use Rattle.capture_search.specs.Search.{frames_from, frames_at, IsPlace}
use Rattle.std.specs.Prelude.{Option, Some, None}

pub record Next (c : Check) (s : List ℕ) (i : ℕ) (p : Place) : Type 0 where
  pub frames : frames_from c s i ≡ bit_of p ∷ frames_from c s (bit_of p + 585)
  pub bit : p.bit < 8
  pub from : i ≤ bit_of p
  pub room : bit_of p + 585 ≤ 8 * length s

pub found : (c : Check) (s : List ℕ) (i : ℕ) (r : Option Place) (p : Place) → (frames_from c s i ≡ frames_at c s r) × IsPlace r → r ≡ Some p → Next c s i p
found c s i r p h e =
    let f : frames_from c s i ≡ bit_of p ∷ frames_from c s (bit_of p + 585) = h.0 ∙ ap (frames_at c s) e in
    let t = taken_head c s i (8 * length s - i) (bit_of p) (frames_from c s (bit_of p + 585)) f in
    record { frames = f; bit = subst IsPlace e h.1; from = t.0; room = t.1 }

-- there is none
pub no_more : (c : Check) (s : List ℕ) (i : ℕ) (r : Option Place) → (frames_from c s i ≡ frames_at c s r) × IsPlace r → r ≡ None → frames_from c s i ≡ []
no_more c s i r h e = h.0 ∙ ap (frames_at c s) e

-- all frames are those from the first bit on
pub from_first : (c : Check) (s : List ℕ) (i : ℕ) → i ≡ 0 → frames_from c s i ≡ frames_in c s
unfolding frames_in
from_first c s i e = ap (frames_from c s) e ∙ ap (taken_from c s 0 0) (sub-zero (8 * length s))
