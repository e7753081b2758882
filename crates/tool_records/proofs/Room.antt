-- How long the line of what is found is: its numbers fit their type, so none has more than 20 digits. Assumes nothing.
use mathlib.Core.List.{List}
use Prim.Native.Nat.{ℕ, ◌^◌, ◌≤◌, ◌<◌}
use native.Mathlib.Nat.{lt_trans}
use native.Mathlib.Omega.{arith}
use lib.Dec.{lit<}
use lib.ListN.{length}
use mir.Val.{Val}
use denote.Laws.{Is}
use denote.Enum.Laws as EL
use denote.Struct.Laws as LL
use Rattle.refusal.specs.Number.{number_of}
use Rattle.text.specs.Text.{decimal}
use Rattle.text.proofs.Digits.{few_digits}
use Rattle.refusal.specs.contracts.Refusal as R
use Rattle.refusal.proofs.Refusal.TheLaws as R'
use Rattle.frame.specs.declared.Record.TheVariants.{SetUp, Data}
use Rattle.frame.specs.contracts.Header as H
use Rattle.frame.proofs.Header.TheLaws as H'
use Rattle.frame.specs.contracts.Record as D
use Rattle.frame.proofs.Record.TheLaws as D'
use Rattle.record_found.specs.declared.Found.{Found}
use Rattle.record_found.specs.declared.Found.TheVariants.{Record, End}
use Rattle.record_found.specs.contracts.Found as F
use Rattle.record_found.proofs.Found.TheLaws as F'
use Rattle.std.specs.contracts.result.Result as Q
use Rattle.std.proofs.result.Result.TheLaws as Q'
use Rattle.record_lines.proofs.LineLengths.{set_up_length, data_length, end_length, refused_length}
use Rattle.refusal.proofs.Numbers.{number_small}
use Rattle.tool_records.specs.FoundLine.{found_line}
use Rattle.std.specs.Prelude.{Result, Ok, Err}
use Rattle.refusal.specs.declared.Refusal.{Refusal}

digits : (n : ℕ) → n < 2 ^ 64 → length (decimal n) ≤ 20
digits n h = few_digits n 20 (lt_trans h (lit< tt)) (omega arith)

record_short : (k : ℕ) → k < 2 ^ 64 → (f : Found) (vs : List Val) → Is F.the_row f vs → length (found_line k (Ok f)) ≤ 192
record_short k h (Record (SetUp g)) vs is = omega (arith, set_up_length k g, digits k h)
record_short k h (Record (Data x)) vs is =
    let d : _ = (EL.owed F.the_type F'.the_laws (Record (Data x)) vs is).0 in
    let n : _ = LL.owed H.the_type H'.the_laws x _ (EL.owed D.the_type D'.the_laws (Data x) _ d).0 in
    omega (arith, data_length k x, digits k h, digits x.sequence n.0.1, digits x.count n.1.0.1, digits x.x n.1.1.0.1, digits x.black n.1.1.1.0.1, digits x.white n.1.1.1.1.0.1)
record_short k h End vs is = omega (arith, end_length k, digits k h)

pub found_short : (k : ℕ) → k < 2 ^ 64 → (f : Result Found Refusal) (vs : List Val) → Is (Q.the_row F.the_row R.the_row) f vs → length (found_line k f) ≤ 192
found_short k h (Ok f) vs is = record_short k h f _ (EL.owed (Q.the_type F.the_row R.the_row) (Q'.the_laws F.the_row R.the_row F'.the_row_laws R'.the_row_laws F'.the_told R'.the_told) (Ok f) vs is).0
found_short k h (Err r) vs is =
    let n : _ = LL.owed R.the_type R'.the_laws r _ (EL.owed (Q.the_type F.the_row R.the_row) (Q'.the_laws F.the_row R.the_row F'.the_row_laws R'.the_row_laws F'.the_told R'.the_told) (Err r) vs is).0 in
    omega (arith, refused_length r.«record» (number_of r.reason) r.bit (omega (arith, number_small r.reason)), digits r.bit n.1.0.1, digits r.«record» n.1.1.0.1)
