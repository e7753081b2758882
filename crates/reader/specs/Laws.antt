-- What holds of every answer of the call. Proved in proofs/Answers. Assumes nothing.
use Rattle.std.specs.Prelude.{List, ℕ}
use Rattle.refusal.specs.Reply.{SmallPlace}
use Rattle.register.specs.declared.Check.{Check}
use Rattle.reader.specs.Call.{read_page}

-- A refusal's record and bit are small, so that the number that C gets holds both.
abbrev pub ReadPlace : Type 0
ReadPlace = (c : Check) (file o : List ℕ) → SmallPlace (read_page c file o).0
