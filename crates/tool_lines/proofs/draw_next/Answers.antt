-- `tool_lines::draw_next` meets its contract: there is room for a line in either place. Assumes nothing.
use mathlib.Core.Path.{ap, ◌∙◌}
use Prim.Native.Nat.{ℕ}
use native.Mathlib.Omega.{arith}
use lib.ListN.{length-drop, length-take}
use Rattle.refusal.specs.Reply.{Outcome}
use Rattle.words.specs.declared.Front.{Front}
use Rattle.words_read.proofs.Lines.{roomy_answer}
use Rattle.tool_lines.proofs.draw_next.Goals as goal

pub returns-then-at-bitmap : goal.returns-then-at-bitmap
returns-then-at-bitmap c = ap (λ (d : Outcome Front ℕ). d.0) c.line_of_words.ensures ∙ roomy_answer _ _ (simp (length-take, length-drop) (omega arith))

pub returns : goal.returns
returns c = ap (λ (d : Outcome Front ℕ). d.0) c.line_of_words-2.ensures ∙ roomy_answer _ _ (omega arith)
