-- The names of files that are to be PNGs. Assumes nothing.
use Rattle.std.specs.Prelude.{◌≡◌, List, ℕ, ◌-◌, length, drop}
use Rattle.text.specs.Text.{codes}

-- the last four octets, or all where there are fewer
abbrev pub NamesPng : List ℕ → Type 0
NamesPng name = drop (length name - 4) name ≡ codes ".png"
