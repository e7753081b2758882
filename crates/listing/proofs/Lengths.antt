-- How long the lines of a listing are: none has more octets than a record. Assumes nothing.
use mathlib.Core.List.{List}
use Prim.Native.Nat.{ℕ, ◌≤◌, ◌<◌}
use native.Mathlib.Omega.{arith}
use lib.ListN.{length}
use Rattle.octets.specs.Bits.{number_at, field_at}
use Rattle.octets.proofs.Fields.{number_lt, field_lt}
use Rattle.text.specs.Text.{decimal}
use Rattle.text.proofs.Digits.{few_digits}
use Rattle.frame.specs.declared.Record.{Record}
use Rattle.settings.specs.declared.Settings.{Settings}
use Rattle.frame.specs.Layout.{header_of}
use Rattle.records.specs.Records.{sent_at}
use Rattle.reader_progress.specs.declared.FileProgress.{FileProgress}
use Rattle.reader_record.proofs.Judges.{RecordAccepted, set_up, no_bits, frame}
use Rattle.record_lines.specs.Lines.{set_up_line, data_line, record_line, end_lines, refused_line}
use Rattle.record_lines.proofs.LineLengths.{set_up_length, data_length, page_length, refused_length}

-- numbers of a few digits
four : (n : ℕ) → n < 10000 → length (decimal n) ≤ 4
four n h = few_digits n 4 (omega arith) (omega arith)

five : (n : ℕ) → n < 65536 → length (decimal n) ≤ 5
five n h = few_digits n 5 (omega arith) (omega arith)

one : (n : ℕ) → n < 10 → length (decimal n) ≤ 1
one n h = few_digits n 1 (omega arith) (omega arith)

module _ (k : ℕ) (h : k < 10000) where
  set_up_short : (g : Settings) → length (set_up_line k g) ≤ 76
  set_up_short g = omega (arith, set_up_length k g, four k h)

  data_short : (s : List ℕ) → length (data_line k (header_of s)) ≤ 76
  unfolding header_of
  data_short s =
      omega (
        arith,
        data_length k (header_of s),
        four k h,
        one (number_at s 24 2) (omega (arith, number_lt s 24 2)),
        four (field_at s 31 10) (omega (arith, field_lt s 31 10)),
        four (field_at s 41 12) (omega (arith, field_lt s 41 12)),
        one (field_at s 53 3) (omega (arith, field_lt s 53 3)),
        one (field_at s 56 3) (omega (arith, field_lt s 56 3)),
      )

  pub end_short : (lines : ℕ) → lines < 65536 → length (end_lines k lines) ≤ 76
  end_short lines l = omega (arith, page_length k lines, four k h, five lines l)

  pub refused_short : (number bit : ℕ) → number < 100 → bit < 512 → length (refused_line number k bit) ≤ 76
  refused_short number bit n b = omega (arith, refused_length k number bit n, four k h, four bit (omega arith))

  -- the line of a record behind which the file goes on
  pub record_short : {file : List ℕ} {j : ℕ} {p q : FileProgress} {r : Record} → RecordAccepted file j p r q → length (record_line k r) ≤ 76
  record_short (set_up d g) = set_up_short g
  record_short {file} {j} (no_bits d z) = data_short (sent_at file j)
  record_short {file} {j} (frame d z g y) = data_short (sent_at file j)
