-- `basics::Cursor::put_times` meets its contract: a part is filled with n times the octet. Assumes nothing.
use mathlib.Core.Path.{◌≡◌, refl, sym, ap, ◌∙◌}
use Prim.Native.Nat.{ℕ, ◌+◌}
use native.Mathlib.Omega.{arith}
use lib.ListN.{length, replicate, length-take, length-drop, length-replicate}
use Rattle.basics.proofs.Placed.{placed_part}
use Rattle.basics.proofs.Cursor+u8.put_times.Goals as goal

pub returns : goal.returns
returns c =
    let at : ℕ = c.args.self.now.at in
    let n : length (replicate c.args.n c.args.octet) ≡ c.args.n = length-replicate c.args.n c.args.octet in
    let e : c.fill.new.self ≡ replicate c.args.n c.args.octet =
    c.fill.ensures.after (λ y h. h) ∙ ap (λ (k : ℕ). replicate k c.args.octet) (simp (length-take, length-drop) (omega arith)) in
    record { at = ap (λ (k : ℕ). at + k) (sym n); items = placed_part _ _ _ _ _ e (n ∙ omega arith); same = refl }
