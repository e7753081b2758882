-- A file that is refused by 11: the bit is where its record's data part stops, read after the records before it. Assumes nothing.
--
-- From a record on, reading goes on behind each record or stops at it. What it stops for is a number with no bit, which is not 11, or 11 with that bit
-- (`reader_record` `Judges.record-fault`).
use mathlib.Core.Path.{◌≡◌, refl, sym}
use mathlib.Core.Bool.{Bool, true, false, cond}
use mathlib.Core.List.{List}
use Prim.Native.Nat.{ℕ, zero, suc}
use native.Mathlib.Omega.{arith}
use lib.ListN.{length, take}
use Rattle.basics.proofs.Apart.{differ}
use Rattle.octets.specs.Bits.{bits_from}
use Rattle.refusal.specs.declared.Fault.{Fault}
use Rattle.refusal.specs.Number.{number_of}
use Rattle.register.specs.declared.Check.{Check}
use Rattle.register.specs.Setting.{allowed_check}
use Rattle.state.specs.declared.State.{State}
use Rattle.frame.specs.declared.Header.{Header}
use Rattle.diagram.specs.Diagram.{LongestBeginning}
use Rattle.chain.specs.declared.Image.{Image}
use Rattle.chain.specs.Chain.{start_of}
use Rattle.chain.specs.Laws.{FrameFault, no_bit, stops}
use Rattle.bitmap.specs.Validity.{most_lines}
use Rattle.reader_progress.specs.declared.FileProgress.{FileProgress}
use Rattle.reader_progress.specs.declared.RecordEffect.{RecordEffect}
use Rattle.reader_progress.specs.declared.RecordEffect.TheVariants.{On, Page as Ends}
use Rattle.reader_progress.specs.Progress.{first_progress}
use Rattle.reader_record.specs.Record.{next, columns_at}
use Rattle.reader_record.proofs.Judges.{record_fault}
use Rattle.reader_judge.specs.File.{FileReading, refused, page, laying, after_record, reading_from_within, file_reading_from, reading_by_within, most_octets, file_reading_within}
use Rattle.reader_judge.specs.Laws.{Reached, at_first, and_next, StopsAt, RefusedBy11}
use Rattle.std.specs.Prelude.{Result, Ok, Err}

-- a fault of number 11 has the bit at which the data part stops
fault_stops : {im : Image} {h : Header} {s : List ℕ} {f : Fault} → FrameFault im h s f → number_of f.reason ≡ 11 → LongestBeginning (start_of im h) (bits_from s 61 h.count) f.bit
fault_stops (no_bit reason d) n = absurd (d n)
fault_stops (stops l b) n = l

from_record : (c : Check) (file : List ℕ) (n j : ℕ) (p : FileProgress) (k b : ℕ) → Reached c file j p → file_reading_from c file n j p ≡ refused 11 k b → StopsAt c file k b
unfolding reading_from_within
from_record c file zero j p k b r e = absurd (let z : ◌≡◌ {A = ℕ} 1 11 = cc in omega arith)
from_record c file (suc n) j p k b r e = by (λ q s. from_record c file n (suc j) q k b s) (next c file j p) refl e
  where
    behind : (cs : List State) (s : FileReading) → laying cs s ≡ refused 11 k b → s ≡ refused 11 k b
    behind cs (refused m i d) e = e
    behind cs (page t ds) e = differ cc

    by : ((q : FileProgress) → Reached c file (suc j) q → file_reading_from c file n (suc j) q ≡ refused 11 k b → StopsAt c file k b) →
        (x : Result RecordEffect Fault) → next c file j p ≡ x → after_record x j (columns_at file j p.image) (λ q. file_reading_from c file n (suc j) q) ≡ refused 11 k b → StopsAt c file k b
    by go (Err f) i e =
        let a : number_of f.reason ≡ 11 = cc in
        let l : j ≡ k = cc in
        let d : f.bit ≡ b = cc in
        let s = fault_stops (record_fault most_lines c file j p f i) a in
        rw (sym l, sym d) record { progress = p; reached = r; bit = s }
    by go (Ok (Ends t)) i e = differ cc
    by go (Ok (On x q)) i e = go q (and_next r i) (behind (columns_at file j p.image) (file_reading_from c file n (suc j) q) e)

pub refused_by_11 : RefusedBy11
unfolding file_reading_within reading_by_within
refused_by_11 c file k b e = go (allowed_check c) e
  where
    go : (t : Bool) → cond t (file_reading_from c (take most_octets file) (length (take most_octets file)) 0 first_progress) (refused 20 0 0) ≡ refused 11 k b → StopsAt c (take most_octets file) k b
    go true e = from_record c (take most_octets file) (length (take most_octets file)) 0 first_progress k b at_first e
    go false e = absurd (let z : ◌≡◌ {A = ℕ} 20 11 = cc in omega arith)
