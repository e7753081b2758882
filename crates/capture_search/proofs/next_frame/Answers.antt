-- `capture_search::next_frame` meets its contract: the frames from the place reached on are those from the first place on; and the bits up to bit k
-- agree with the sync's. Assumes nothing.
use mathlib.Core.Path.{◌≡◌, sym, ap, ◌∙◌}
use mathlib.Core.Bool.{true, false}
use mathlib.Core.List.{List}
use Prim.Native.Nat.{ℕ, ◌+◌, ◌*◌, ◌-◌, ◌/◌, ◌%◌, ◌^◌, ◌≤◌, ◌<◌}
use native.Mathlib.Omega.{arith}
use lib.ListN.{length}
use borrow.Author.Tests.{leb-true, leb-false}
use Rattle.octets.specs.Bits.{number_at}
use Rattle.frame.specs.Layout.{sync_number, check_agrees}
use Rattle.register.specs.declared.Check.{Check}
use Rattle.capture.specs.Frames.{bit_of, captured_at, has_room, stands}
use Rattle.capture.proofs.Taken.{stands_there, no_sync_there, no_check_there, none_left, taken_there, taken_later}
use Rattle.capture_search.specs.Search.{frames_from}
use Rattle.capture_search.proofs.Sync.{agree_more}
use Rattle.capture_search.proofs.next_frame.Goals.{After-further-place, After-loop-k, In-start}
use Rattle.capture_search.proofs.next_frame.Goals as goal

-- the start that is tried has room
room : (c : In-start) → has_room c.args.octets.now (bit_of c.start.place) ≡ true
room c = sym c.has_room.ensures ∙ c.start-test.true

fits : (c : In-start) → bit_of c.start.place + 585 ≤ 8 * length c.args.octets.now
unfolding has_room
fits c = leb-true _ _ (room c)

past : (s : List ℕ) (i : ℕ) → has_room s i ≡ false → 8 * length s < i + 585
unfolding has_room
past s i e = leb-false _ _ e

-- where no frame stands at a start, the frames from the next on are those from the first place on
on : (c : Check) (s : List ℕ) (from i j : ℕ) → frames_from c s from ≡ frames_from c s i → stands c s i ≡ false → j ≡ i + 1 → frames_from c s from ≡ frames_from c s j
on c s from i j e f n = e ∙ taken_later c s i f ∙ ap (frames_from c s) (sym n)

-- the measure falls
less : (m i j : ℕ) → i + 585 ≤ m → j ≡ i + 1 → m - j < m - i
less m i j h e = omega arith

pub start-smaller-then-bits : goal.start-smaller-then-bits
start-smaller-then-bits c = less _ _ _ (fits (goal.at.start-smaller-then-bits c).In-start) c.further-place.ensures.0

-- behind a start whose bits are not the sync's
no-sync : (c : After-further-place) → (c.window-bits.result ≡ sync_number → ⊥) →
    let a = c.args in
    (frames_from a.checker.now.setting a.octets.now (bit_of a.from) ≡ frames_from a.checker.now.setting a.octets.now (bit_of c.further-place.result)) × (c.further-place.result.bit < 8)
no-sync c differs =
    let a : _ = c.args in
    (on a.checker.now.setting a.octets.now (bit_of a.from) (bit_of c.start.place) _ c.start.invariant.0 (no_sync_there a.checker.now.setting a.octets.now (bit_of c.start.place) (λ z. differs (c.window-bits.ensures ∙ z))) c.further-place.ensures.0, c.further-place.ensures.1)

pub start-preserved-then-bits : goal.start-preserved-then-bits
start-preserved-then-bits c = no-sync (goal.at.start-preserved-then-bits c).After-further-place (λ z. c.if-bits.true (ap (λ (x : ℕ). x / 65536) z))

pub start-smaller-then-bits-k : goal.start-smaller-then-bits-k
start-smaller-then-bits-k c = less _ _ _ (fits (goal.at.start-smaller-then-bits-k c).In-start) c.further-place.ensures.0

pub start-preserved-then-bits-k : goal.start-preserved-then-bits-k
start-preserved-then-bits-k c = no-sync (goal.at.start-preserved-then-bits-k c).After-further-place (λ z. c.if-bits-k.true (ap (λ (x : ℕ). x / 2 ^ (23 - c.loop-k.k) % 2) z))

pub loop-k-preserved : goal.loop-k-preserved
loop-k-preserved c =
    let l : _ = c.loop-k in
    let w : _ = c.window-bits in
    let e : 24 - l.k ≡ 23 - l.k + 1 = omega arith in
    let f : 24 - (l.k + 1) ≡ 23 - l.k = omega arith in
    rw f (agree_more w.result sync_number (23 - l.k) (rw e at l.invariant) c.if-bits-k.false)

-- all 24 bits agree, so that the sync stands there
sync-stands : (c : After-loop-k) → number_at c.args.octets.now (bit_of c.start.place) 24 ≡ sync_number
sync-stands c =
    let l : _ = c.loop-k in
    let w : _ = c.window-bits in
    let e : 24 - l.k ≡ 0 = omega (arith, c.loop-k-test.false) in
    sym w.ensures ∙ omega (arith, rw e at l.invariant)

pub returns-then-check_agrees : goal.returns-then-check_agrees
returns-then-check_agrees c =
    let a : _ = c.args in
    let s : List ℕ = a.octets.now in
    let h : check_agrees a.checker.now.setting (captured_at s (bit_of c.start.place)) ≡ true = ap (check_agrees a.checker.now.setting) (sym c.frame_at.ensures) ∙ sym c.check_agrees.ensures ∙ c.if-check_agrees.true in
    (c.start.invariant.0 ∙ taken_there a.checker.now.setting s (bit_of c.start.place) (stands_there a.checker.now.setting s (bit_of c.start.place) (room (goal.at.returns-then-check_agrees c).In-start) (sync-stands (goal.at.returns-then-check_agrees c).After-loop-k) h), c.start.invariant.1)

pub start-smaller : goal.start-smaller
start-smaller c = less _ _ _ (fits (goal.at.start-smaller c).In-start) c.further-place.ensures.0

pub start-preserved : goal.start-preserved
start-preserved c =
    let a : _ = c.args in
    let s : List ℕ = a.octets.now in
    let h : check_agrees a.checker.now.setting (captured_at s (bit_of c.start.place)) ≡ false = ap (check_agrees a.checker.now.setting) (sym c.frame_at.ensures) ∙ sym c.check_agrees.ensures ∙ c.if-check_agrees.false in
    (on a.checker.now.setting s (bit_of a.from) (bit_of c.start.place) _ c.start.invariant.0 (no_check_there a.checker.now.setting s (bit_of c.start.place) h) c.further-place.ensures.0, c.further-place.ensures.1)

pub returns : goal.returns
returns c =
    let a : _ = c.args in
    (c.start.invariant.0 ∙ none_left a.checker.now.setting a.octets.now (bit_of c.start.place) 0 (8 * length a.octets.now - bit_of c.start.place) (past a.octets.now (bit_of c.start.place) (sym c.has_room.ensures ∙ c.start-test.false)), tt)

pub window-bits-requires : goal.window-bits-requires
window-bits-requires c = (c.start.invariant.1, omega (arith, fits (goal.at.window-bits-requires c).In-start))

pub further-place-requires : goal.further-place-requires
further-place-requires c = (c.start.invariant.1, omega (arith, fits (goal.at.further-place-requires c).In-start), omega arith)

pub loop-k-init : goal.loop-k-init
loop-k-init c = c.if-bits.false

pub frame_at-requires : goal.frame_at-requires
frame_at-requires c = (c.start.invariant.1, omega (arith, fits (goal.at.frame_at-requires c).In-start))
