-- `capture_frame::frame_at` meets its contract: the octets so far are those of the frame. Assumes nothing.
use mathlib.Core.Path.{◌≡◌, sym, ap, ◌∙◌}
use mathlib.Core.List.{List, [], ◌∷◌}
use Prim.Native.Nat.{ℕ, ◌+◌, ◌*◌, ◌-◌, ◌<◌}
use native.Mathlib.Omega.{arith}
use lib.ListN.{length, get_or, take, drop, set, length-set, length-drop}
use lib.Seq.{ext_get_or, take_all}
use Rattle.octets.specs.Bits.{bit_num, bits_from, high_first, number_at}
use Rattle.octets.proofs.Packed.{length_packed}
use Rattle.octets.proofs.Window.{number_octet}
use Rattle.basics.proofs.Front.{filled_more}
use Rattle.capture.specs.Frames.{captured_at, bit_of}
use Rattle.capture.proofs.Places.{bits_later, bit_later, frame_octet, frame_last}
use Rattle.capture_frame.proofs.frame_at.Goals as goal

-- the octets from octet o on, as the code takes them
abbrev behind : ℕ → List ℕ → List ℕ
behind o s = take (length s - o) (drop o s)

behind-all : (o : ℕ) (s : List ℕ) → behind o s ≡ drop o s
behind-all o s = take_all (length s - o) (drop o s) (omega (arith, length-drop o s))

-- an octet with the eight bits at bit b + 8 * k, counted from octet o on, is octet k of the frame
eight : (s : List ℕ) (o b k x : ℕ) → x < 256 → k < 73 → bits_from (x ∷ []) 0 8 ≡ bits_from (behind o s) (b + 8 * k) 8 → x ≡ get_or (captured_at s (8 * o + b)) k 0
unfolding number_at
eight s o b k x h l e =
    let p : 8 * o + (b + 8 * k) ≡ 8 * o + b + 8 * k = omega arith in
    sym (number_octet (x ∷ []) 0 h) ∙ ap (high_first 8) (e ∙ ap (λ (t : List ℕ). bits_from t (b + 8 * k) 8) (behind-all o s) ∙ bits_later s o (b + 8 * k) 8 ∙ ap (λ (i : ℕ). bits_from s i 8) p) ∙ sym (frame_octet s (8 * o + b) k l)

-- and the last one is its bit 584
last : (s : List ℕ) (o b x : ℕ) → x ≡ bit_num (behind o s) (b + 584) → x * 128 ≡ get_or (captured_at s (8 * o + b)) 73 0
last s o b x e =
    let p : 8 * o + (b + 584) ≡ 8 * o + b + 584 = omega arith in
    ap (λ (n : ℕ). n * 128) (e ∙ ap (λ (t : List ℕ). bit_num t (b + 584)) (behind-all o s) ∙ bit_later s o (b + 584) ∙ ap (bit_num s) p) ∙ sym (frame_last s (8 * o + b))

pub loop-i-preserved : goal.loop-i-preserved
loop-i-preserved c =
    let l : _ = c.loop-i in
    let a : _ = c.args in
    let f : List ℕ = captured_at a.octets.now (bit_of a.p) in
    (length-set l.s l.i _ ∙ l.invariant.0, filled_more (λ k. get_or f k 0) l.s l.i _ (omega (arith, l.invariant.0)) l.invariant.1 (eight a.octets.now a.p.octet a.p.bit l.i _ (omega arith) (omega arith) c.octet_at.ensures))

pub returns : goal.returns
returns c =
    let l : _ = c.loop-i in
    let a : _ = c.args in
    let f : List ℕ = captured_at a.octets.now (bit_of a.p) in
    let n : length (set l.s 73 (c.bit.result * 128)) ≡ 74 = length-set l.s 73 _ ∙ l.invariant.0 in
    let m : length f ≡ 74 = length_packed 74 _ in
    ext_get_or 0 (set l.s 73 (c.bit.result * 128)) f (n ∙ sym m) λ k h.
    filled_more (λ k. get_or f k 0) l.s 73 _ (omega (arith, l.invariant.0)) (λ k h. l.invariant.1 k (omega arith)) (last a.octets.now a.p.octet a.p.bit _ c.bit.ensures.0) k (omega (arith, n))
