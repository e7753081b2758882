-- `capture_find::suffices` meets its contract: no more frames have room side by side. Assumes nothing.
use mathlib.Core.Path.{◌≡◌, sym, ap, ◌∙◌}
use Prim.Native.Nat.{ℕ, ◌*◌, ◌/◌, ◌≤◌}
use native.Mathlib.Decide.{dec_le}
use native.Mathlib.Omega.{arith}
use lib.Dec.{leb}
use lib.ListN.{length}
use borrow.Author.Tests.{le-leb, lt-leb}
use Rattle.capture.specs.Frames.{frames_in}
use Rattle.capture.proofs.Found.{few_frames}
use Rattle.capture_find.proofs.suffices.Goals as goal

halves : (n m : ℕ) → leb n (m / 2) ≡ leb (2 * n) m
halves n m = go (dec_le n (m / 2))
  where
    go : Dec (n ≤ m / 2) → leb n (m / 2) ≡ leb (2 * n) m
    go (yes h) = le-leb n (m / 2) h ∙ sym (le-leb (2 * n) m (omega arith))
    go (no h) = lt-leb n (m / 2) (omega arith) ∙ sym (lt-leb (2 * n) m (omega arith))

pub returns-then-most_frames-numbers : goal.returns-then-most_frames-numbers
returns-then-most_frames-numbers c =
    let a : _ = c.args in
    let m : _ = c.most_frames.ensures in
    sym (le-leb (2 * length (frames_in a.checker.now.setting a.octets.now)) a.numbers (omega (arith, few_frames a.checker.now.setting a.octets.now, m, c.if-most_frames-numbers.true)))

pub returns : goal.returns
returns c = let a : _ = c.args in ap (λ (n : ℕ). leb n (a.numbers / 2)) c.count.ensures ∙ halves (length (frames_in a.checker.now.setting a.octets.now)) a.numbers
