-- How long the lines are: no number has more than 20 digits. Assumes nothing.
use Prim.Native.Nat.{ℕ, ◌<◌, ◌≤◌, ◌^◌}
use native.Mathlib.Nat.{lt_trans}
use native.Mathlib.Omega.{arith}
use lib.Dec.{lit<}
use lib.ListN.{length, length-append}
use Rattle.text.specs.Text.{codes, decimal}
use Rattle.text.proofs.Digits.{few_digits}
use Rattle.tool_captures.specs.PlaceLine.{place_line, count_line}

digits : (n : ℕ) → n < 2 ^ 64 → length (decimal n) ≤ 20
digits n h = few_digits n 20 (lt_trans h (lit< tt)) (omega arith)

pub place_short : (octet bit : ℕ) → octet < 2 ^ 64 → bit < 2 ^ 64 → length (place_line octet bit) ≤ 64
unfolding codes place_line
place_short octet bit h l = simp length-append (omega (arith, digits octet h, digits bit l))

pub count_short : (n : ℕ) → n < 2 ^ 64 → length (count_line n) ≤ 64
unfolding codes count_line
count_short n h = simp length-append (omega (arith, digits n h))
