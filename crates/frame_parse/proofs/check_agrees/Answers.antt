-- `frame_parse::check_agrees` meets its contract. Assumes nothing.
use mathlib.Core.Path.{◌≡◌, sym, ap, ap₂, ◌∙◌}
use mathlib.Core.Bool.{Bool, true, false, cond}
use mathlib.Core.List.{List}
use Prim.Native.Nat.{ℕ}
use lib.Dec.{eqb}
use Rattle.register.specs.declared.Check.{Check}
use Rattle.register.specs.Setting.{frame_check}
use Rattle.frame.specs.Layout.{check_sent, check_agrees}
use Rattle.frame_parse.proofs.check_agrees.Goals as goal

where-compared : (c : Check) (s : List ℕ) (b : Bool) → c.compare ≡ b → cond b (eqb (frame_check c s) (check_sent c.order s)) true ≡ check_agrees c s
unfolding check_agrees
where-compared c s b e = sym (ap (λ (b : Bool). cond b (eqb (frame_check c s) (check_sent c.order s)) true) e)

pub returns-then-checker : goal.returns-then-checker
returns-then-checker c =
    let a : _ = c.args in
    ap₂ eqb c.frame_check.ensures.0 c.check_sent-sent.ensures ∙ where-compared a.checker.now.setting a.s.now true c.if-checker.true

pub returns-else-checker : goal.returns-else-checker
returns-else-checker c = where-compared c.args.checker.now.setting c.args.s.now false c.if-checker.false
