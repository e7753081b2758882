-- `record_lines::put_set_up` meets its contract: the pieces of the text are written one behind the other. Assumes nothing.
use mathlib.Core.Path.{refl}
use mathlib.Core.List.{List, ◌++◌}
use Prim.Native.Nat.{ℕ}
use Rattle.text.specs.Text.{codes, decimal}
use Rattle.settings.specs.declared.Settings.{Settings}
use Rattle.record_lines.specs.Lines.{mode_word, paper_word, set_up_line}
use Rattle.basics.proofs.Writing.{left_all, left_room, left_rest, left_on, left_end}
use Rattle.record_lines.proofs.put_set_up.Goals as goal

-- what is left of the line, from a piece on
abbrev paper_left : Settings → List ℕ
paper_left g = paper_word g.paper ++ codes "\n"

abbrev space_left : Settings → List ℕ
space_left g = codes " " ++ paper_left g

abbrev mode_left : Settings → List ℕ
mode_left g = mode_word g.mode ++ space_left g

abbrev set_up_left : Settings → List ℕ
set_up_left g = codes " setup " ++ mode_left g

pub put_decimal-requires : goal.put_decimal-requires
unfolding codes set_up_line
put_decimal-requires c = left_room (left_all c.args.out.now c.requires refl) (decimal c.args.k) (set_up_left c.args.settings) refl

pub put_all-requires : goal.put_all-requires
unfolding codes set_up_line
put_all-requires c =
    let w1 : _ = left_on (left_all c.args.out.now c.requires refl) (set_up_left c.args.settings) refl c.put_decimal.ensures in
    left_room w1 (codes " setup ") (mode_left c.args.settings) refl

pub put_mode-requires : goal.put_mode-requires
unfolding codes set_up_line
put_mode-requires c =
    let w1 : _ = left_on (left_all c.args.out.now c.requires refl) (set_up_left c.args.settings) refl c.put_decimal.ensures in
    let w2 : _ = left_on w1 (mode_left c.args.settings) refl c.put_all.ensures in
    left_room w2 (mode_word c.args.settings.mode) (space_left c.args.settings) refl

pub put_all-requires-2 : goal.put_all-requires-2
unfolding codes set_up_line
put_all-requires-2 c =
    let w1 : _ = left_on (left_all c.args.out.now c.requires refl) (set_up_left c.args.settings) refl c.put_decimal.ensures in
    let w2 : _ = left_on w1 (mode_left c.args.settings) refl c.put_all.ensures in
    let w3 : _ = left_on w2 (space_left c.args.settings) refl c.put_mode.ensures in
    left_room w3 (codes " ") (paper_left c.args.settings) refl

pub put_paper-requires : goal.put_paper-requires
unfolding codes set_up_line
put_paper-requires c =
    let w1 : _ = left_on (left_all c.args.out.now c.requires refl) (set_up_left c.args.settings) refl c.put_decimal.ensures in
    let w2 : _ = left_on w1 (mode_left c.args.settings) refl c.put_all.ensures in
    let w3 : _ = left_on w2 (space_left c.args.settings) refl c.put_mode.ensures in
    let w4 : _ = left_on w3 (paper_left c.args.settings) refl c.put_all-2.ensures in
    left_room w4 (paper_word c.args.settings.paper) (codes "\n") refl

pub put_all-requires-3 : goal.put_all-requires-3
unfolding codes set_up_line
put_all-requires-3 c =
    let w1 : _ = left_on (left_all c.args.out.now c.requires refl) (set_up_left c.args.settings) refl c.put_decimal.ensures in
    let w2 : _ = left_on w1 (mode_left c.args.settings) refl c.put_all.ensures in
    let w3 : _ = left_on w2 (space_left c.args.settings) refl c.put_mode.ensures in
    let w4 : _ = left_on w3 (paper_left c.args.settings) refl c.put_all-2.ensures in
    let w5 : _ = left_on w4 (codes "\n") refl c.put_paper.ensures in
    left_rest w5

pub returns : goal.returns
unfolding codes set_up_line
returns c =
    let w1 : _ = left_on (left_all c.args.out.now c.requires refl) (set_up_left c.args.settings) refl c.put_decimal.ensures in
    let w2 : _ = left_on w1 (mode_left c.args.settings) refl c.put_all.ensures in
    let w3 : _ = left_on w2 (space_left c.args.settings) refl c.put_mode.ensures in
    let w4 : _ = left_on w3 (paper_left c.args.settings) refl c.put_all-2.ensures in
    let w5 : _ = left_on w4 (codes "\n") refl c.put_paper.ensures in
    left_end w5 c.put_all-3.ensures
