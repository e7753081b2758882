-- Laws of reading a header: blanks and comments passed octet by octet, digits taken octet by octet, and what the header then says.
-- Assumes nothing.
use mathlib.Core.Path.{◌≡◌, refl, sym, ap, ◌∙◌}
use mathlib.Core.Bool.{Bool, true, false, false≢true}
use mathlib.Core.List.{List, [], ◌∷◌}
use Prim.Native.Nat.{ℕ, ◌+◌, ◌-◌, ◌*◌, ◌<◌, ◌≤◌, min}
use native.Mathlib.Decide.{dec_lt}
use native.Mathlib.Nat.{add-zero}
use native.Mathlib.Omega.{arith}
use borrow.Author.Tests.{leb-true, eq-eqb, ne_eqb}
use lib.Dec.{leb, eqb}
use lib.ListN.{length, get_or, drop, get_or-eq_default, drop_of_length-le}
use lib.Seq.{drop-drop, get_or-drop}
use Rattle.bitmap.proofs.Taken.{if_both}
use Rattle.text.specs.Text.{codes, digits_value_from}
use Rattle.text.proofs.Words.{word_first}
use Rattle.pbm.specs.Header.{blank_of, ends_line, within, passed, skip_from, skipped, is_digit, digits, behind, number_in, notP4, unreadable, says, begins, width_from, after_sizes, sizes_in, pbm_header_of}

-- what holds of an octet and not of the 0 past the end
in_range : (f : ℕ → Bool) → f 0 ≡ false → (cs : List ℕ) (i : ℕ) → f (get_or cs i 0) ≡ true → i < length cs
in_range f z cs i e = go (dec_lt i (length cs))
  where
    go : Dec (i < length cs) → i < length cs
    go (yes h) = h
    go (no h) = absurd (false≢true (sym z ∙ rw (get_or-eq_default cs 0 {n = i} (omega arith)) at e))

-- ---- blanks and comments

module _ (b : Bool) (cs : List ℕ) (i : ℕ) where
  pub skip_on : i < length cs → passed b (get_or cs i 0) ≡ true → skip_from (within b (get_or cs i 0)) (drop (i + 1) cs) ≡ skip_from b (drop i cs)
  unfolding skip_from
  skip_on h e = rw (word_first cs i h, e) refl

  pub skip_stop : i < length cs → passed b (get_or cs i 0) ≡ false → drop i cs ≡ skip_from b (drop i cs)
  unfolding skip_from
  skip_stop h e = rw (word_first cs i h, e) refl

  pub skip_end : length cs ≤ i → drop i cs ≡ skip_from b (drop i cs)
  unfolding skip_from
  skip_end h = rw (drop_of_length-le cs h) refl

-- ---- digits

pub digit_low : (c : ℕ) → is_digit c ≡ true → 48 ≤ c
unfolding is_digit
digit_low c e = leb-true 48 c (if_both (leb 48 c) (leb c 57) e).0

pub digit_in : (cs : List ℕ) (i : ℕ) → is_digit (get_or cs i 0) ≡ true → i < length cs
unfolding is_digit
digit_in cs i e = in_range is_digit refl cs i e

pub digits_on : (cs : List ℕ) (i : ℕ) → is_digit (get_or cs i 0) ≡ true → digits (drop i cs) ≡ get_or cs i 0 ∷ digits (drop (i + 1) cs)
unfolding digits
digits_on cs i e = rw (word_first cs i (digit_in cs i e), e)

pub digits_stop : (cs : List ℕ) (i : ℕ) → is_digit (get_or cs i 0) ≡ false → digits (drop i cs) ≡ []
unfolding digits
digits_stop cs i e = go (dec_lt i (length cs))
  where
    go : Dec (i < length cs) → digits (drop i cs) ≡ []
    go (yes h) = rw (word_first cs i h, e)
    go (no h) = rw (drop_of_length-le cs {i = i} (omega arith))

-- the number so far only grows
said_grows : (v : ℕ) (ds : List ℕ) → v ≤ digits_value_from v ds
unfolding digits_value_from
said_grows v [] = omega arith
said_grows v (d ∷ ds) = omega (arith, said_grows (10 * v + (d - 48)) ds)

-- so that it may be kept at 65,536 at most
said_kept : (v : ℕ) (ds : List ℕ) → min (digits_value_from (min v 65536) ds) 65536 ≡ min (digits_value_from v ds) 65536
said_kept v ds = go (dec_lt v 65536)
  where
    go : Dec (v < 65536) → min (digits_value_from (min v 65536) ds) 65536 ≡ min (digits_value_from v ds) 65536
    go (yes h) = let e : min v 65536 ≡ v = omega arith in rw e refl
    go (no h) = let e : min v 65536 ≡ 65536 = omega arith in rw e (omega (arith, said_grows v ds, said_grows 65536 ds))

pub number_on : (cs : List ℕ) (i v : ℕ) {w : ℕ} → is_digit (get_or cs i 0) ≡ true → w ≡ min (10 * v + (get_or cs i 0 - 48)) 65536 →
    min (digits_value_from w (digits (drop (i + 1) cs))) 65536 ≡ min (digits_value_from v (digits (drop i cs))) 65536
unfolding digits_value_from
number_on cs i v e f = rw (f, digits_on cs i e) (said_kept (10 * v + (get_or cs i 0 - 48)) (digits (drop (i + 1) cs)))

pub number_end : (cs : List ℕ) (i v : ℕ) → v ≤ 65536 → is_digit (get_or cs i 0) ≡ false → v ≡ min (digits_value_from v (digits (drop i cs))) 65536
unfolding digits_value_from
number_end cs i v h e = rw (digits_stop cs i e) (omega arith)

-- ---- what the header says

pub begins_long : (cs : List ℕ) → begins cs ≡ true → 2 < length cs
unfolding begins passed blank_of
begins_long cs e = in_range (passed false) refl cs 2 (if_both (eqb (get_or cs 1 0) 52) _ (if_both (eqb (get_or cs 0 0) 80) _ e).1).1

pub not_p4 : (cs : List ℕ) → begins cs ≡ false → pbm_header_of cs ≡ notP4
unfolding pbm_header_of
not_p4 cs e = rw e

-- the width w from place a up to n, and the height h from place b up to e
pub record Places (cs : List ℕ) (a w n b h e : ℕ) : Type 0 where
  pub p4 : begins cs ≡ true
  pub width : drop a cs ≡ width_from cs
  pub pels : w ≡ number_in (drop a cs)
  pub behind_width : n ≡ a + length (digits (drop a cs))
  pub height : drop b cs ≡ skipped (drop n cs)
  pub lines : h ≡ number_in (drop b cs)
  pub behind_height : e ≡ b + length (digits (drop b cs))

module _ {cs : List ℕ} {a w n b h e : ℕ} (p : Places cs a w n b h e) where
  sizes_at : pbm_header_of cs ≡ sizes_in (drop a cs) (drop b cs)
  unfolding pbm_header_of
  sizes_at =
      let g : behind (drop a cs) ≡ drop n cs = drop-drop (length (digits (drop a cs))) a cs ∙ ap (λ (i : ℕ). drop i cs) (sym p.behind_width) in
      rw (p.p4, ← p.width, g, ← p.height)

  pub no_width : n ≡ a → pbm_header_of cs ≡ unreadable
  unfolding sizes_in
  no_width f = sizes_at ∙ rw (eq-eqb (length (digits (drop a cs))) 0 (omega (arith, p.behind_width)))

  pub no_height : (n ≡ a → ⊥) → e ≡ b → pbm_header_of cs ≡ unreadable
  unfolding sizes_in
  no_height f g = sizes_at ∙ rw (ne_eqb (length (digits (drop a cs))) 0 (λ z. f (omega (arith, p.behind_width))), eq-eqb (length (digits (drop b cs))) 0 (omega (arith, p.behind_height)))

  ended_at : (n ≡ a → ⊥) → (e ≡ b → ⊥) → pbm_header_of cs ≡ after_sizes w h (drop e cs)
  unfolding sizes_in
  ended_at f g =
      let s : behind (drop b cs) ≡ drop e cs = drop-drop (length (digits (drop b cs))) b cs ∙ ap (λ (i : ℕ). drop i cs) (sym p.behind_height) in
      sizes_at ∙ rw (
        ne_eqb (length (digits (drop a cs))) 0 (λ z. f (omega (arith, p.behind_width))),
        ne_eqb (length (digits (drop b cs))) 0 (λ z. g (omega (arith, p.behind_height))),
        s,
        ← p.pels,
        ← p.lines,
      )

  first_at : get_or (drop e cs) 0 0 ≡ get_or cs e 0
  first_at = get_or-drop e cs 0 0 ∙ ap (λ (i : ℕ). get_or cs i 0) (add-zero e)

  pub no_blank : (n ≡ a → ⊥) → (e ≡ b → ⊥) → blank_of (get_or cs e 0) ≡ false → pbm_header_of cs ≡ unreadable
  unfolding after_sizes
  no_blank f g k = ended_at f g ∙ rw (first_at, k)

  pub all_said : (n ≡ a → ⊥) → (e ≡ b → ⊥) → blank_of (get_or cs e 0) ≡ true → (pbm_header_of cs ≡ says w h (drop (e + 1) cs)) × (e + 1 ≤ length cs)
  unfolding after_sizes blank_of
  all_said f g k = (ended_at f g ∙ rw (first_at, k, drop-drop 1 e cs), omega (arith, in_range blank_of refl cs e k))

-- ---- four headers

examples : (pbm_header_of (codes "P4 # 3 5\n1726# a\n\n2200 ") ≡ says 1726 2200 []) × (pbm_header_of (codes "P4#\n\t0001726\r70000\nrows") ≡ says 1726 65536 (codes "rows"))
    × (pbm_header_of (codes "P4\n1726 2# c\n") ≡ unreadable) × (pbm_header_of (codes "P5\n1726 2\n") ≡ notP4)
unfolding pbm_header_of begins sizes_in after_sizes skip_from passed within ends_line blank_of digits is_digit digits_value_from codes
examples = (refl, refl, refl, refl)
