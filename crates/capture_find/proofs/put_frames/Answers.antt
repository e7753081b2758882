-- `capture_find::put_frames` meets its contract: what is left to write is the list of the frames from the place reached on. Assumes nothing.
use mathlib.Core.Path.{◌≡◌, refl, sym, ap, ◌∙◌}
use mathlib.Core.List.{List, [], ◌∷◌, ◌++◌}
use Prim.Native.Nat.{ℕ, ◌+◌, ◌/◌, ◌%◌, ◌<◌}
use native.Mathlib.Omega.{arith}
use Rattle.basics.proofs.Writing.{Left, left_all, left_room, left_on, left_done}
use Rattle.capture.specs.declared.Place.{Place}
use Rattle.capture.specs.Frames.{bit_of, frames_in}
use Rattle.capture.specs.Find.{list_of}
use Rattle.capture.proofs.Found.{length_list}
use Rattle.capture_search.specs.Search.{frames_from}
use Rattle.capture_find.proofs.Next.{Next, found, no_more, from_first}
use Rattle.capture_find.proofs.put_frames.Goals.{In-Some, After-put}
use Rattle.capture_find.proofs.put_frames.Goals as goal

pub loop-place-init : goal.loop-place-init
loop-place-init c =
    let b : _ = c.beginning-from in
    let a : _ = c.args in
    let e : frames_from a.checker.now.setting a.octets.now (bit_of b.result) ≡ frames_in a.checker.now.setting a.octets.now = from_first a.checker.now.setting a.octets.now (bit_of b.result) b.ensures.0 in
    (b.ensures.1, omega (arith, b.ensures.0), left_all _ (omega (arith, length_list (frames_in a.checker.now.setting a.octets.now), c.requires)) (ap list_of (sym e)))

next : (c : In-Some) → let a = c.args in Next a.checker.now.setting a.octets.now (bit_of c.loop-place.from) c.in-Some.place
next c = found _ _ _ _ _ c.next_frame.ensures c.in-Some.is

-- the list of the frames from here on has the place's octet and bit in front
front : (p : Place) (ps qs : List ℕ) → p.bit < 8 → ps ≡ bit_of p ∷ qs → list_of ps ≡ (p.octet ∷ []) ++ ((p.bit ∷ []) ++ list_of qs)
unfolding list_of
front p ps qs h e =
    let o : bit_of p / 8 ≡ p.octet = omega arith in
    let b : bit_of p % 8 ≡ p.bit = omega arith in
    ap list_of e ∙ rw (o, b) refl

none : (ps : List ℕ) → ps ≡ [] → list_of ps ≡ []
unfolding list_of
none ps e = ap list_of e

-- behind the place's octet its bit is left, and the frames further on
bit-left : (c : After-put) → Left (list_of (frames_in c.args.checker.now.setting c.args.octets.now)) c.args.list.now
    ((c.in-Some.place.bit ∷ []) ++ list_of (frames_from c.args.checker.now.setting c.args.octets.now (bit_of c.in-Some.place + 585))) c.put.new.self
bit-left c = let n : _ = found _ _ _ _ _ c.next_frame.ensures c.in-Some.is in left_on c.loop-place.invariant.2 _ (front c.in-Some.place _ _ n.bit n.frames) c.put.ensures

pub put-requires : goal.put-requires
put-requires c =
    let n : _ = next (goal.at.put-requires c).In-Some in
    left_room c.loop-place.invariant.2 (c.in-Some.place.octet ∷ []) _ (front c.in-Some.place _ _ n.bit n.frames)

pub put-requires-in-Some : goal.put-requires-in-Some
put-requires-in-Some c = left_room (bit-left (goal.at.put-requires-in-Some c).After-put) (c.in-Some.place.bit ∷ []) (list_of (frames_from c.args.checker.now.setting c.args.octets.now (bit_of c.in-Some.place + 585))) refl

pub loop-place-preserved : goal.loop-place-preserved
loop-place-preserved c =
    let a : _ = c.args in
    let g : _ = goal.at.loop-place-preserved c in
    let n : _ = next g.In-Some in
    let e : bit_of c.further-from.result ≡ bit_of c.in-Some.place + 585 = c.further-from.ensures.0 in
    (c.further-from.ensures.1, omega (arith, n.room, e), rw e (left_on (bit-left g.After-put) _ refl c.put-in-Some.ensures))

pub returns : goal.returns
returns c = left_done c.loop-place.invariant.2 (none _ (no_more _ _ _ _ c.next_frame.ensures c.in_default.is))

pub next_frame-requires : goal.next_frame-requires
next_frame-requires c = c.loop-place.invariant.0

pub further-from-requires : goal.further-from-requires
further-from-requires c = let n : _ = next (goal.at.further-from-requires c).In-Some in (n.bit, omega (arith, n.room), omega arith)

pub loop-place-smaller : goal.loop-place-smaller
loop-place-smaller c = let n : _ = next (goal.at.loop-place-smaller c).In-Some in omega (arith, n.from, n.room, c.further-from.ensures.0)
