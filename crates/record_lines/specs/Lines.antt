-- The lines of a listing, as octets. Assumes nothing.
use Rattle.std.specs.Prelude.{cond, List, [], ◌++◌, ℕ, eqb}
use Prim.Native.String.{String}
use Rattle.text.specs.Text.{codes, decimal}
use Rattle.state.specs.declared.Mixed.TheVariants.{WB, BW}
use Rattle.state.specs.declared.Solid.TheVariants.{WW, BB}
use Rattle.state.specs.declared.State.{State}
use Rattle.state.specs.declared.State.TheVariants.{Solid as solid, Mixed as mixed}
use Rattle.frame.specs.declared.Header.{Header}
use Rattle.frame.specs.declared.Record.{Record}
use Rattle.frame.specs.declared.Record.TheVariants.{SetUp, Data}
use Rattle.refusal.specs.declared.Refusal.{Refusal}
use Rattle.refusal.specs.Number.{number_of}
use Rattle.settings.specs.declared.Mode.{Mode}
use Rattle.settings.specs.declared.Mode.TheVariants.{Quality, Detail, Express}
use Rattle.settings.specs.declared.Paper.{Paper}
use Rattle.settings.specs.declared.Paper.TheVariants.{Eleven, FiveAndHalf, Fourteen}
use Rattle.settings.specs.declared.Settings.{Settings}

-- ---- the words

abbrev pub mode_word : Mode → List ℕ
mode_word Quality = codes "quality"
mode_word Detail = codes "detail"
mode_word Express = codes "express"

-- a paper by its length in inches
abbrev pub paper_word : Paper → List ℕ
paper_word Eleven = codes "11"
paper_word FiveAndHalf = codes "5.5"
paper_word Fourteen = codes "14"

-- a state by its two pels, the top one first
abbrev pub state_word : State → List ℕ
state_word (solid WW) = codes "00"
state_word (solid BB) = codes "11"
state_word (mixed WB) = codes "01"
state_word (mixed BW) = codes "10"

-- a word and a number
abbrev pub named : String → ℕ → List ℕ
named word n = codes word ++ decimal n

-- ---- the lines

-- record k, a set-up record
unfoldable pub set_up_line : ℕ → Settings → List ℕ
set_up_line k g = decimal k ++ (codes " setup " ++ (mode_word g.mode ++ (codes " " ++ (paper_word g.paper ++ codes "\n"))))

-- the end of a data record's line, from the state on, and from the field lengths on
abbrev pub state_end : State → List ℕ
state_end s = codes " state " ++ (state_word s ++ codes "\n")

abbrev pub lengths_end : Header → List ℕ
lengths_end h = named " black " h.black ++ (named " white " h.white ++ state_end h.state)

-- record k, a data record
unfoldable pub data_line : ℕ → Header → List ℕ
data_line k h = decimal k ++ (named " data seq " h.sequence ++ (named " count " h.count ++ (named " x " h.x ++ lengths_end h)))

-- record k, a set-up record or a data record
abbrev pub record_line : ℕ → Record → List ℕ
record_line k (SetUp g) = set_up_line k g
record_line k (Data h) = data_line k h

-- record k, the end record
unfoldable pub end_line : ℕ → List ℕ
end_line k = decimal k ++ codes " end\n"

-- record k, the end record, and the page's number of lines
unfoldable pub end_lines : ℕ → ℕ → List ℕ
end_lines k lines = end_line k ++ (named "ok lines " lines ++ codes "\n")

-- the bit of a refusal stands in the line of 11 alone
unfoldable pub bit_word : ℕ → ℕ → List ℕ
bit_word number bit = cond (eqb number 11) (named " bit " bit) []

-- a refusal by a number at record k, with a bit, takes the place of its line
unfoldable pub refused_line : ℕ → ℕ → ℕ → List ℕ
refused_line number k bit = named "refused " number ++ (named " at " k ++ (bit_word number bit ++ codes "\n"))

abbrev pub refusal_line : Refusal → List ℕ
refusal_line f = refused_line (number_of f.reason) f.«record» f.bit
