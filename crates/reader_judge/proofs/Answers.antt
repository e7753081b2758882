-- What a file is judged to be. Assumes nothing.
use mathlib.Core.Path.{◌≡◌, refl, sym, ap, ◌∙◌}
use mathlib.Core.Bool.{Bool, true, false, cond}
use mathlib.Core.List.{List}
use Prim.Native.Nat.{ℕ, ◌≤◌, ◌<◌, ◌^◌, min}
use native.Mathlib.Decide.{dec_le}
use native.Mathlib.Omega.{arith}
use lib.ListN.{length, take, length-take}
use lib.Seq.{take_all}
use Rattle.basics.proofs.Apart.{differ}
use Rattle.register.specs.declared.Check.{Check}
use Rattle.register.specs.Setting.{allowed_check}
use Rattle.state.specs.declared.State.{State}
use Rattle.reader_progress.specs.declared.Page.{Page}
use Rattle.reader_progress.specs.Progress.{first_progress}
use Rattle.refusal.specs.Reply.{gives, refuses, BitFits}
use Rattle.reader_judge.specs.File.{FileReading, refused, page, reading_from_within, file_reading_from, reading_by_within, file_reading_by, most_octets, file_reading_within, file_reading, judgement_of, judge_page_within, judge_page}
use Rattle.reader_judge.specs.Laws.{PageFacts, PageIs, place_of, JudgedPlace, JudgedBit}
use Rattle.reader_judge.proofs.Files.{paged, place_within, bit_fits}

pub take_most : (n m : ℕ) (file : List ℕ) → n ≡ min (length file) m → take n file ≡ take m file
take_most n m file e = go (dec_le (length file) m)
  where
    go : Dec (length file ≤ m) → take n file ≡ take m file
    go (yes h) = take_all n file (omega arith) ∙ sym (take_all m file h)
    go (no h) = let z : n ≡ m = omega arith in rw z refl

pub not_allowed : (c : Check) (file : List ℕ) → allowed_check c ≡ false → refuses 20 0 ≡ judge_page c file
unfolding judge_page_within file_reading_within
not_allowed c file e = rw e refl

pub as_judged : (c : Check) (file : List ℕ) (n : ℕ) → allowed_check c ≡ true → n ≡ min (length file) most_octets → judgement_of (file_reading_by c (take n file)) ≡ judge_page c file
unfolding judge_page_within file_reading_within
as_judged c file n e z = rw (e, take_most n most_octets file z) refl

-- a file that is judged a page is one, with its columns
pub record Known (c : Check) (file : List ℕ) (t : Page) : Type 0 where
  pub columns : List State
  pub is : file_reading c file ≡ page t columns
  pub by : file_reading_by c (take most_octets file) ≡ page t columns

pub known : (c : Check) (file : List ℕ) (t : Page) → judge_page c file ≡ gives t → Known c file t
unfolding judge_page_within file_reading_within
known c file t e = go (allowed_check c) refl (file_reading_by c (take most_octets file)) refl e
  where
    go : (b : Bool) → allowed_check c ≡ b → (s : FileReading) → file_reading_by c (take most_octets file) ≡ s → judgement_of (cond b s (refused 20 0 0)) ≡ gives t → Known c file t
    go true a (page u cs) y e = let z : u ≡ t = cc in record { columns = cs; is = rw (a, y, z) refl; by = y ∙ ap (λ (x : Page). page x cs) z }
    go true a (refused n k b) y e = differ cc
    go false a s y e = differ cc

pub page_is : PageIs
unfolding file_reading_within reading_by_within
page_is c file t cs e = go (allowed_check c) e
  where
    go : (b : Bool) → cond b (file_reading_from c (take most_octets file) (length (take most_octets file)) 0 first_progress) (refused 20 0 0) ≡ page t cs → PageFacts file t cs
    go true e =
        let f = paged c (take most_octets file) (length (take most_octets file)) 0 first_progress t cs e in
        record {
          records = f.records;
          octets = omega (arith, f.octets);
          columns = f.columns;
          count = omega (arith, f.count);
          pairs = f.pairs;
          whole = f.whole;
          lines = f.lines;
          few = f.few;
          inside = omega (arith, f.inside, length-take most_octets file);
        }
    go false e = differ cc

pub judged_place : JudgedPlace
unfolding judge_page_within file_reading_within reading_by_within most_octets
judged_place c file = go (allowed_check c)
  where
    go : (b : Bool) → place_of (judgement_of (cond b (file_reading_from c (take most_octets file) (length (take most_octets file)) 0 first_progress) (refused 20 0 0))) < 2 ^ 40
    go true = omega (arith, place_within c (take most_octets file) (length (take most_octets file)) 0 first_progress (omega arith), length-take most_octets file)
    go false = omega arith

-- of any limit of lines
pub bit_within : (most : ℕ) (c : Check) (file : List ℕ) → BitFits (judge_page_within most c file)
unfolding judge_page_within file_reading_within reading_by_within
bit_within most c file = go (allowed_check c)
  where
    go : (b : Bool) → BitFits (judgement_of (cond b (reading_from_within most c (take most_octets file) (length (take most_octets file)) 0 first_progress) (refused 20 0 0)))
    go true = bit_fits most c (take most_octets file) (length (take most_octets file)) 0 first_progress
    go false = (λ n. refl, omega arith)

pub judged_bit : JudgedBit
judged_bit c file = bit_within _ c file
