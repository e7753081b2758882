-- `frame_build::put_header` meets its contract: the fields are put one after another. Assumes nothing.
use mathlib.Core.List.{List}
use mathlib.Core.Path.{ap, ◌∙◌}
use Prim.Native.Nat.{ℕ}
use Rattle.octets.specs.Bits.{put_bits, number_bits, field_bits}
use Rattle.state.specs.Pels.{pels_of}
use Rattle.frame.specs.declared.Header.{Header}
use Rattle.frame.proofs.Frames.{header_puts}
use Rattle.frame_build.proofs.put_header.Goals as goal

pub returns : goal.returns
returns c =
    let a : _ = c.args in
    let h : Header = a.h in
    c.put_number-3.ensures
    ∙ ap (λ (v : ℕ). put_bits c.put-4.new.s 59 (number_bits 2 v)) c.pels.ensures.0
    ∙ ap (λ (s : List ℕ). put_bits s 59 (number_bits 2 (pels_of h.state))) (c.put-4.ensures
    ∙ ap (λ (s : List ℕ). put_bits s 56 (field_bits 3 h.white)) (c.put-3.ensures
    ∙ ap (λ (s : List ℕ). put_bits s 53 (field_bits 3 h.black)) (c.put-2.ensures
    ∙ ap (λ (s : List ℕ). put_bits s 41 (field_bits 12 h.x)) (c.put.ensures
    ∙ ap (λ (s : List ℕ). put_bits s 31 (field_bits 10 h.count)) (c.put_number-2.ensures
    ∙ ap (λ (s : List ℕ). put_bits s 26 (number_bits 5 0b10000)) c.put_number.ensures)))))
    ∙ header_puts a.s.now h
