-- `walker::walk` meets its contract: a step leads to the next place. Assumes nothing.
use mathlib.Core.Path.{◌∙◌, sym, ap, ap₂}
use mathlib.Core.List.{List}
use Prim.Native.Nat.{ℕ}
use denote.Bor.{Bor}
use Rattle.record_found.specs.Found.{step_at}
use Rattle.walker.specs.declared.Walker.{Walker}
use Rattle.walker.proofs.Steps.{place_start, place_next}
use Rattle.walker.proofs.walk.Goals as goal

pub loop-init : goal.loop-init
loop-init c = record {
  same_file = ap (λ (s : Bor (List ℕ)). s.now) c.new-w.ensures.0;
  stands = c.new-w.ensures.1 ∙ sym (place_start c.args.c c.args.file.now);
}

pub loop-preserved : goal.loop-preserved
loop-preserved c =
    let l : _ = c.loop in
    record {
      same_file = ap (λ (w : Walker). w.file.now) c.next.ensures.1 ∙ l.invariant.same_file;
      stands = ap (λ (w : Walker). w.at) c.next.ensures.1 ∙ ap₂ (λ (file : List ℕ) (at : ℕ). (step_at c.args.c file at).next) l.invariant.same_file l.invariant.stands ∙ place_next c.args.c c.args.file.now l.counter;
    }
