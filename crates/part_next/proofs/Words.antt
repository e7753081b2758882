-- The words of a run, as a reader fetches them: whole, and not bit by bit.
use mathlib.Core.Path.{◌≡◌, refl, sym, ap, ◌∙◌}
use mathlib.Core.List.{List, [], ◌∷◌, ◌++◌}
use mathlib.Core.Logic.{◌≢◌}
use mathlib.Core.Bool.{Bool, true, false}
use Prim.Native.Nat.{ℕ, zero, suc, pred, ◌-◌, ◌^◌, ◌≤◌, ◌<◌}
use native.Mathlib.Nat.{lt_of_lt_of_le}
use native.Mathlib.Omega.{arith}
use borrow.Author.Tests.{eq-eqb, ne_eqb}
use lib.ListN.{length, take, drop, take-append-drop}
use lib.Pow.{pow_mono}
use Rattle.octets.specs.Bits.{Bit, bits_from, value, field_at}
use Rattle.octets.proofs.Fields.{length_bits, bits_take}
use Rattle.state.specs.declared.Solid.{Solid}
use Rattle.diagram.specs.declared.Context.{Context}
use Rattle.field_length.specs.declared.Nth.{Nth}
use Rattle.diagram.specs.Diagram.{ValidLengths, ValidContext, length_of, after_columns, longer, closed, full, run}
use Rattle.diagram.specs.Decoder.{refused, begin, shut, bit, finish, follow, decode_from, starts, decode_at, part}
use Rattle.diagram.proofs.Contexts.{length_within, valid_length, valid_longer, valid_closed}
use Rattle.diagram.proofs.Complete.{whole}
use Rattle.part_next.specs.declared.Fetched.{Fetched}
use Rattle.part_next.specs.declared.Word.TheVariants.{Ones, Closing}
use Rattle.part_next.specs.Next.{Words, AtFront}
use Rattle.std.specs.Prelude.{Some, None}

-- Too few bits are left for a word.
short_in : (w : List Bit) (n : ℕ) → length w ≤ n → (b : Bit) (u : List Bit) (k : Nth) (s : Solid) (c : Context) → decode_from w (part k s (b ∷ u) n) c ≡ refused 0
unfolding decode_from follow bit finish
short_in [] n h b u k s c = refl
short_in (d ∷ w) zero h b u k s c = absurd (omega arith)
short_in (d ∷ w) (suc n) h b u k s c = short_in w n (omega arith) b (u ++ d ∷ []) k s c

short : (bs : List Bit) (k : Nth) (s : Solid) (c : Context) → 0 < length bs → length bs < length_of s c.lengths → decode_at (run k s) c bs ≡ refused 0
unfolding decode_at starts begin decode_from follow bit
short [] k s c p h = absurd (omega arith)
short (b ∷ w) k s c p h = go (pred (length_of s c.lengths)) (omega arith)
  where
    go : (n : ℕ) → length (b ∷ w) ≤ n → decode_from (b ∷ w) (part k s [] n) c ≡ refused 0
    go zero h = absurd (omega arith)
    go (suc n) h = short_in w n (omega arith) b [] k s c

-- a word's value is below 128
pub word_small : (n v : ℕ) → n ≤ 7 → v < 2 ^ n → v < 128
word_small n v h g = lt_of_lt_of_le g (pow_mono {i = n} {j = 7} h)

-- A word, and what is behind it.
after : (t : Bool) (k : Nth) (s : Solid) (c : Context) → ValidContext c → (w bs : List Bit) → length w ≡ length_of s c.lengths → full (length_of s c.lengths) (value w) ≡ t →
    decode_at (run k s) c (w ++ bs) ≡ follow (shut t k s w c) c (λ e f. decode_from bs e f)
unfolding decode_at starts begin
after t k s c v w bs e f = rw (whole w (pred (length_of s c.lengths)) (e ∙ sym (valid_length s c v)) [] bs k s c, f) refl

module _ (o : List ℕ) (i n : ℕ) (k : Nth) (s : Solid) (c : Context) where
  pub no_word : (m : ℕ) → m ≡ length_of s c.lengths → 0 < n → n < m → Words k s c (bits_from o i n) None
  no_word m e p h =
      let g = length_bits o i n in
      record { is = short (bits_from o i n) k s c (omega arith) (omega arith); front = tt }

  module _ (v : ValidContext c) (f : Fetched) (few : f.bits.0 ≤ n) (length-is : f.bits.0 ≡ length_of s c.lengths) (value_is : f.columns.0 ≡ field_at o i f.bits.0)
      (below : f.columns.0 < 2 ^ f.bits.0) where
    taken : take f.bits.0 (bits_from o i n) ≡ bits_from o i f.bits.0
    taken = bits_take o i f.bits.0 n few

    said : f.columns.0 ≡ value (take f.bits.0 (bits_from o i n))
    unfolding field_at
    said = rw taken value_is

    at_front_lem : ValidLengths f.lengths → AtFront (bits_from o i n) f
    at_front_lem u = let h = length_within s c v in record {
      few = omega arith;
      some = omega arith;
      enough = rw (length_bits o i n) few;
      value_is = said;
      below = word_small f.bits.0 f.columns.0 (omega arith) below;
      valid = u;
    }

    at_word : (t : Bool) → full (length_of s c.lengths) f.columns.0 ≡ t →
        decode_at (run k s) c (bits_from o i n) ≡
        follow (shut t k s (take f.bits.0 (bits_from o i n)) c) c (λ x y. decode_from (drop f.bits.0 (bits_from o i n)) x y)
    at_word t e =
        ap (λ (bs : List Bit). decode_at (run k s) c bs) (sym (take-append-drop f.bits.0 (bits_from o i n)))
        ∙ after t k s c v (take f.bits.0 (bits_from o i n)) (drop f.bits.0 (bits_from o i n))
        (ap (λ (w : List Bit). length w) taken ∙ length_bits o i f.bits.0 ∙ length-is)
        (ap (λ (x : ℕ). full (length_of s c.lengths) x) (sym said) ∙ e)

    pub ones_word : (x : ℕ) → x ≡ 2 ^ f.bits.0 - 1 → f.columns.0 ≡ x → after_columns f.columns.0 f.lengths c ≡ longer s f.columns.0 c → Words k s c (bits_from o i n) (Some (Ones f))
    unfolding full follow shut decode_at starts
    ones_word x d e g = record {
      is = at_word true (eq-eqb f.columns.0 (2 ^ length_of s c.lengths - 1) (e ∙ d ∙ ap (λ (y : ℕ). 2 ^ y - 1) length-is)) ∙ rw (g, ← said) refl;
      front = at_front_lem (rw (ap (λ (d : Context). d.lengths) g) (valid_longer s f.columns.0 c v).lengths);
    }

    pub closing_word : (x : ℕ) → x ≡ 2 ^ f.bits.0 - 1 → f.columns.0 ≢ x → after_columns f.columns.0 f.lengths c ≡ closed k s f.columns.0 c → Words k s c (bits_from o i n) (Some (Closing f))
    unfolding full follow shut decode_at starts
    closing_word x d e g = record {
      is = at_word false (ne_eqb f.columns.0 (2 ^ length_of s c.lengths - 1) (λ z. e (z ∙ ap (λ (y : ℕ). 2 ^ y - 1) (sym length-is) ∙ sym d))) ∙ rw (g, ← said) refl;
      front = at_front_lem (rw (ap (λ (d : Context). d.lengths) g) (valid_closed k s f.columns.0 c v).lengths);
    }
