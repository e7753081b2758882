-- `frame_build::put_set_up` meets its contract: the parts are put one after another. Assumes nothing.
use mathlib.Core.List.{List}
use mathlib.Core.Path.{ap, ◌∙◌}
use Prim.Native.Nat.{ℕ}
use Rattle.octets.specs.Bits.{put_bits, number_bits, field_bits}
use Rattle.settings.specs.Settings.{settings_number}
use Rattle.frame.specs.Layout.{alternating}
use Rattle.frame.proofs.Frames.{set_up_puts}
use Rattle.frame_build.proofs.put_set_up.Goals as goal

pub returns : goal.returns
returns c =
    let a : _ = c.args in
    c.alternate.ensures
    ∙ ap (λ (s : List ℕ). put_bits s 93 (alternating 240)) (c.put-2.ensures
    ∙ ap (λ (s : List ℕ). put_bits s 73 (field_bits 20 0)) (c.put_number-3.ensures
    ∙ ap (λ (s : List ℕ). put_bits s 66 (number_bits 7 0b1000000)) (c.put_number-2.ensures
    ∙ ap (λ (v : ℕ). put_bits c.put.new.s 61 (number_bits 5 v)) c.into.ensures.0
    ∙ ap (λ (s : List ℕ). put_bits s 61 (number_bits 5 (settings_number a.settings))) (c.put.ensures
    ∙ ap (λ (s : List ℕ). put_bits s 31 (field_bits 30 0x3FFF_FFFF)) c.put_number.ensures))))
    ∙ set_up_puts a.s.now a.settings
