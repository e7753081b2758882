-- How long the lines of a listing are, by the digits of their numbers. Assumes nothing.
use mathlib.Core.Bool.{Bool, true, false, cond}
use mathlib.Core.List.{[]}
use Prim.Native.Nat.{ℕ, ◌+◌, ◌≤◌, ◌<◌}
use native.Mathlib.Omega.{arith}
use lib.Dec.{eqb}
use lib.ListN.{length, length-append}
use Rattle.text.specs.Text.{codes, decimal}
use Rattle.text.proofs.Digits.{few_digits}
use Rattle.state.specs.declared.Mixed.TheVariants.{WB, BW}
use Rattle.state.specs.declared.Solid.TheVariants.{WW, BB}
use Rattle.state.specs.declared.State.{State}
use Rattle.state.specs.declared.State.TheVariants.{Solid as solid, Mixed as mixed}
use Rattle.settings.specs.declared.Mode.{Mode}
use Rattle.settings.specs.declared.Mode.TheVariants.{Quality, Detail, Express}
use Rattle.settings.specs.declared.Paper.{Paper}
use Rattle.settings.specs.declared.Paper.TheVariants.{Eleven, FiveAndHalf, Fourteen}
use Rattle.settings.specs.declared.Settings.{Settings}
use Rattle.frame.specs.declared.Header.{Header}
use Rattle.record_lines.specs.Lines.{mode_word, paper_word, state_word, set_up_line, data_line, named, end_line, end_lines, bit_word, refused_line}

mode_short : (m : Mode) → length (mode_word m) ≤ 7
unfolding codes
mode_short Quality = omega arith
mode_short Detail = omega arith
mode_short Express = omega arith

paper_short : (p : Paper) → length (paper_word p) ≤ 3
unfolding codes
paper_short Eleven = omega arith
paper_short FiveAndHalf = omega arith
paper_short Fourteen = omega arith

state_short : (s : State) → length (state_word s) ≤ 2
unfolding codes
state_short (solid WW) = omega arith
state_short (solid BB) = omega arith
state_short (mixed WB) = omega arith
state_short (mixed BW) = omega arith

bit_length : (number bit : ℕ) → length (bit_word number bit) ≤ length (decimal bit) + 5
unfolding bit_word codes
bit_length number bit = go (eqb number 11)
  where
    go : (t : Bool) → length (cond t (named " bit " bit) []) ≤ length (decimal bit) + 5
    go true = simp length-append (omega arith)
    go false = omega arith

module _ (k : ℕ) where
  pub set_up_length : (g : Settings) → length (set_up_line k g) ≤ length (decimal k) + 19
  unfolding set_up_line codes
  set_up_length g = simp length-append (omega (arith, mode_short g.mode, paper_short g.paper))

  pub data_length : (h : Header) → length (data_line k h) ≤ length (decimal k) + length (decimal h.sequence) + length (decimal h.count) + length (decimal h.x) + length (decimal h.black) + length (decimal h.white) + 44
  unfolding data_line codes
  data_length h = simp length-append (omega (arith, state_short h.state))

  pub end_length : length (end_line k) ≤ length (decimal k) + 5
  unfolding end_line codes
  end_length = simp length-append (omega arith)

  pub page_length : (lines : ℕ) → length (end_lines k lines) ≤ length (decimal k) + length (decimal lines) + 15
  unfolding end_line end_lines codes
  page_length lines = simp length-append (omega arith)

  pub refused_length : (number bit : ℕ) → number < 100 → length (refused_line number k bit) ≤ length (decimal k) + length (decimal bit) + 20
  unfolding refused_line codes
  refused_length number bit n = simp length-append (omega (arith, few_digits number 2 (omega arith) (omega arith), bit_length number bit))
