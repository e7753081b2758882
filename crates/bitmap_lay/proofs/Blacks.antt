-- Bits set to 1: an octet at a time, and one stretch behind another. Assumes nothing.
use mathlib.Core.Path.{◌≡◌, refl, sym, ap, subst, ◌∙◌}
use mathlib.Core.List.{List, ◌++◌}
use Prim.Native.Nat.{ℕ, zero, suc, ◌+◌, ◌-◌, ◌*◌, ◌/◌, ◌%◌, ◌^◌, ◌<◌, ◌≤◌, max}
use native.Mathlib.Decide.{dec_lt}
use native.Mathlib.Omega.{arith}
use lib.Bits.{bit_or, or_lt}
use lib.Dec.{lit<}
use lib.ListN.{length, get_or, set, take, drop, replicate, length-set, length-take, length-drop, length-replicate}
use lib.Seq.{get_or-set_same, get_or-set_other}
use Rattle.basics.specs.Octets.{Octets}
use Rattle.basics.specs.Placed.{placed}
use Rattle.octets.specs.Bits.{bit_num}
use Rattle.octets.proofs.BitsEqual.{bit_in}
use Rattle.bitmap.specs.Laid.{Blacked}
use Rattle.bitmap.proofs.Bitwise.{mask, mask_in, mask_out, mask_le}
use Rattle.basics.proofs.Bitwise.{or_bit}
use Rattle.basics.proofs.Placed.{placed_none, placed_set, placed_part}

pub blacked_none : {a b : ℕ} (o : List ℕ) → a ≡ b → Blacked a b o o
blacked_none o e = record { size = refl; octets = λ f. f; black = λ t h l. absurd (omega arith); kept = λ t f. refl }

pub blacked_more : {a b c : ℕ} {o p q : List ℕ} → a ≤ b → b ≤ c → Blacked a b o p → Blacked b c p q → Blacked a c o q
blacked_more {a} {b} {c} {o} {p} {q} h l x y =
    record {
      size = y.size ∙ x.size;
      octets = λ f. y.octets (x.octets f);
      black = λ t u v. go t u v (dec_lt t b);
      kept = λ t f. y.kept t (λ u v. f (omega arith) v) ∙ x.kept t (λ u v. f u (omega arith));
    }
  where
    go : (t : ℕ) → a ≤ t → t < c → Dec (t < b) → bit_num q t ≡ 1
    go t u v (yes w) = y.kept t (λ m n. omega arith) ∙ x.black t u w
    go t u v (no w) = y.black t (omega arith) v

pub blacked_as : {a b c d : ℕ} {o p : List ℕ} → a ≡ b → c ≡ d → Blacked a c o p → Blacked b d o p
blacked_as {a} {b} {c} {d} {o} {p} e f s = subst (λ (x : ℕ). Blacked x d o p) e (subst (λ (x : ℕ). Blacked a x o p) f s)

-- octet i becomes x, which has the bits u up to v set and is else as it was
blacked_set : (i u v x : ℕ) (o : List ℕ) → v ≤ 8 → i < length o → (Octets o → x < 256) →
    ((k : ℕ) → u ≤ k → k < v → x / 2 ^ (7 - k) % 2 ≡ 1) →
    ((k : ℕ) → k < 8 → (u ≤ k → k < v → ⊥) → x / 2 ^ (7 - k) % 2 ≡ get_or o i 0 / 2 ^ (7 - k) % 2) → Blacked (8 * i + u) (8 * i + v) o (set o i x)
blacked_set i u v x o hi w small on off =
    record {
      size = length-set o i x;
      octets = λ f j. octet f j (dec_lt j i) (dec_lt i j);
      black = λ t h l. black t h l;
      kept = λ t f. kept t f (dec_lt (t / 8) i) (dec_lt i (t / 8));
    }
  where
    octet : Octets o → (j : ℕ) → Dec (j < i) → Dec (i < j) → get_or (set o i x) j 0 < 256
    octet f j (yes h) d = rw (get_or-set_other o i j x 0 (λ e. omega arith)) (f j)
    octet f j (no h) (yes l) = rw (get_or-set_other o i j x 0 (λ e. omega arith)) (f j)
    octet f j (no h) (no l) = let z : j ≡ i = omega arith in rw (z, get_or-set_same o i x 0 w) (small f)

    at : (t : ℕ) → t / 8 ≡ i → bit_num (set o i x) t ≡ x / 2 ^ (7 - t % 8) % 2
    at t e = bit_in (set o i x) t i (t % 8) e refl ∙ ap (λ (y : ℕ). y / 2 ^ (7 - t % 8) % 2) (get_or-set_same o i x 0 w)

    black : (t : ℕ) → 8 * i + u ≤ t → t < 8 * i + v → bit_num (set o i x) t ≡ 1
    black t h l = at t (omega arith) ∙ on (t % 8) (omega arith) (omega arith)

    apart : (t : ℕ) → (t / 8 ≡ i → ⊥) → bit_num (set o i x) t ≡ bit_num o t
    apart t e = bit_in (set o i x) t (t / 8) (t % 8) refl refl ∙ ap (λ (y : ℕ). y / 2 ^ (7 - t % 8) % 2) (get_or-set_other o i (t / 8) x 0 e) ∙ sym (bit_in o t (t / 8) (t % 8) refl refl)

    kept : (t : ℕ) → (8 * i + u ≤ t → t < 8 * i + v → ⊥) → Dec (t / 8 < i) → Dec (i < t / 8) → bit_num (set o i x) t ≡ bit_num o t
    kept t f (yes h) d = apart t (λ e. omega arith)
    kept t f (no h) (yes l) = apart t (λ e. omega arith)
    kept t f (no h) (no l) =
        let e : t / 8 ≡ i = omega arith in
        at t e ∙ off (t % 8) (omega arith) (λ m n. f (omega arith) (omega arith)) ∙ sym (bit_in o t i (t % 8) e refl)

-- the bits u up to v of octet i
pub blacked_octet : (i u v : ℕ) (o : List ℕ) → u ≤ v → v ≤ 8 → i < length o → Blacked (8 * i + u) (8 * i + v) o (set o i (bit_or (get_or o i 0) (mask u v)))
blacked_octet i u v o h hi w =
    blacked_set i u v (bit_or (get_or o i 0) (mask u v)) o hi w
    (λ f. or_lt 8 (get_or o i 0) (mask u v) (f i) (omega (arith, mask_le u v)))
    (λ k m n. or_bit (get_or o i 0) (mask u v) (7 - k) ∙ on (get_or o i 0 / 2 ^ (7 - k)) _ (mask_in u v k m n (omega arith)))
    (λ k l f. or_bit (get_or o i 0) (mask u v) (7 - k) ∙ off (get_or o i 0 / 2 ^ (7 - k)) _ (mask_out u v k (omega arith) (omega arith) l f))
  where
    on : (y m : ℕ) → m ≡ 1 → max (y % 2) m ≡ 1
    on y m e = omega arith

    off : (y m : ℕ) → m ≡ 0 → max (y % 2) m ≡ y % 2
    off y m e = omega arith

-- a whole octet
pub blacked_whole : {a k : ℕ} {o p : List ℕ} → a ≤ 8 * k → k < length p → Blacked a (8 * k) o p → Blacked a (8 * (k + 1)) o (set p k 255)
blacked_whole {a} {k} {o} {p} h w s =
    blacked_more h (omega arith) s
    (blacked_as (omega arith) (omega arith)
    (blacked_set k 0 8 255 p (omega arith) w (λ f. lit< tt) (λ j m n. mask_in 0 8 j m n (omega arith)) (λ j l f. absurd (f (omega arith) l))))

-- n whole octets from octet i on
blacked_wholes : (n i : ℕ) (o : List ℕ) → i + n ≤ length o → Blacked (8 * i) (8 * (i + n)) o (placed i (replicate n 255) o)
blacked_wholes zero i o h = rw (placed_none i o) (blacked_none o (omega arith))
blacked_wholes (suc n) i o h =
    rw (← placed_set i 255 (replicate n 255) o (omega arith))
    (blacked_more (omega arith) (omega arith) (blacked_whole {k = i} (omega arith) (omega arith) (blacked_none o refl))
    (blacked_as refl (omega arith) (blacked_wholes n (i + 1) (set o i 255) (simp length-set (omega arith)))))

-- the same where a part of the octets is filled
pub blacked_filled : (i n : ℕ) (o ys : List ℕ) → i + n ≤ length o → ys ≡ replicate (length (take n (drop i o))) 255 → Blacked (8 * i) (8 * (i + n)) o (take i o ++ (ys ++ drop n (drop i o)))
blacked_filled i n o ys h e =
    let z : length (take n (drop i o)) ≡ n = simp (length-take, length-drop) (omega arith) in
    rw (placed_part i n (replicate n 255) ys o (rw z at e) (length-replicate n 255)) (blacked_wholes n i o h)
