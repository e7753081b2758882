-- What reading a file answers, by the judging of it. Assumes nothing.
use mathlib.Core.Path.{◌≡◌, refl}
use mathlib.Core.Bool.{true, false}
use mathlib.Core.List.{List}
use Prim.Native.Nat.{ℕ, ◌+◌, ◌*◌, ◌<◌, ◌≤◌}
use native.Mathlib.Omega.{arith}
use borrow.Author.Tests.{eq-eqb, ne_eqb, le-leb, lt-leb}
use lib.ListN.{length}
use Rattle.basics.specs.Placed.{at_front}
use Rattle.bitmap.specs.Validity.{lines_allowed}
use Rattle.bitmap.proofs.Pels.{most_small}
use Rattle.bitmap.proofs.Taken.{lines_are}
use Rattle.pbm.specs.declared.PbmFault.TheVariants.{NotP4, HeaderUnreadable, WidthNot1726, LinesNotAllowed, RowsMissing, OutputTooShort}
use Rattle.basics.proofs.Apart.{differ}
use Rattle.bitmap.specs.Validity.{most_lines}
use Rattle.pbm.specs.declared.PbmFault.{PbmFault}
use Rattle.pbm.specs.Header.{HeaderContent, notP4, unreadable, says, pbm_header_of}
use Rattle.pbm.specs.Read.{header_fault, taken_by_within, page_in, taken_from_within, bitmap_of_pbm_within, bitmap_of_pbm}
use Rattle.std.specs.Prelude.{Some, Ok, Err}

pub few_lines : (n : ℕ) → lines_allowed n ≡ true → n < 65536
few_lines n e = omega (arith, (lines_are n e).few, most_small)

-- a header by which a file is not read
pub taken_fault : (file o : List ℕ) {fault : PbmFault} → header_fault (pbm_header_of file) ≡ Some fault → (Err fault, o) ≡ bitmap_of_pbm file o
unfolding bitmap_of_pbm_within
taken_fault file o {fault} e = go (pbm_header_of file) e
  where
    go : (s : HeaderContent) → header_fault s ≡ Some fault → (Err fault, o) ≡ taken_by_within most_lines s o
    go notP4 e = let z : NotP4 ≡ fault = cc in rw z refl
    go unreadable e = let z : HeaderUnreadable ≡ fault = cc in rw z refl
    go (says w h rows) e = differ cc

module _ (file o : List ℕ) {w h : ℕ} {rows : List ℕ} (e : pbm_header_of file ≡ says w h rows) where
  pub taken_width : (w ≡ 1726 → ⊥) → (Err WidthNot1726, o) ≡ bitmap_of_pbm file o
  unfolding bitmap_of_pbm_within taken_from_within
  taken_width n = rw (e, ne_eqb w 1726 n) refl

  module _ (v : w ≡ 1726) where
    pub taken_lines : lines_allowed h ≡ false → (Err LinesNotAllowed, o) ≡ bitmap_of_pbm file o
    unfolding bitmap_of_pbm_within taken_from_within
    taken_lines n = rw (e, eq-eqb w 1726 v, n) refl

    pub taken_rows : lines_allowed h ≡ true → length rows < 216 * h → (Err RowsMissing, o) ≡ bitmap_of_pbm file o
    unfolding bitmap_of_pbm_within taken_from_within
    taken_rows a l = rw (e, eq-eqb w 1726 v, a, lt-leb (216 * h) (length rows) l) refl

    pub taken_short : lines_allowed h ≡ true → 216 * h ≤ length rows → length o < 4 + 216 * h → (Err OutputTooShort, o) ≡ bitmap_of_pbm file o
    unfolding bitmap_of_pbm_within taken_from_within
    taken_short a l s = rw (e, eq-eqb w 1726 v, a, le-leb (216 * h) (length rows) l, lt-leb (4 + 216 * h) (length o) s) refl

    pub taken_page : lines_allowed h ≡ true → 216 * h ≤ length rows → 4 + 216 * h ≤ length o → (Ok (4 + 216 * h), at_front (page_in h rows) o) ≡ bitmap_of_pbm file o
    unfolding bitmap_of_pbm_within taken_from_within
    taken_page a l s = rw (e, eq-eqb w 1726 v, a, le-leb (216 * h) (length rows) l, le-leb (4 + 216 * h) (length o) s) refl
