-- A record where it stands in a file: record k is due behind k records of 76 octets, its frame is that of its own octets, and the next
-- record stands 76 octets on. Assumes nothing.
use mathlib.Core.Path.{◌≡◌, refl, sym, ap, ◌∙◌}
use mathlib.Core.List.{List, ◌∷◌, ◌++◌}
use Prim.Native.Nat.{ℕ, zero, suc, ◌+◌, ◌*◌, ◌-◌, ◌≤◌}
use native.Mathlib.Nat.{add-zero}
use native.Mathlib.Omega.{arith}
use lib.ListN.{length, get_or, drop, length-append, length-drop, get_or-append}
use lib.Seq.{get_or-drop, drop-drop, drop_at}
use Rattle.turning.specs.Turned.{turned_from}
use Rattle.records.specs.Records.{due_at, sent_at, pair_of}
use Rattle.records.proofs.Order.{due_pair}

-- turned octets look at no octet behind them
pub turned_front : (n i : ℕ) (xs ys : List ℕ) → i + n ≤ length xs → turned_from (xs ++ ys) i n ≡ turned_from xs i n
unfolding turned_from
turned_front zero i xs ys h = refl
turned_front (suc n) i xs ys h = rw (get_or-append xs ys 0 i (omega arith), turned_front n (suc i) xs ys (omega arith)) refl

-- record k has this length, this command and these octets, and others follow
module _ (file : List ℕ) (k len command : ℕ) (octets rest : List ℕ) (e : drop (76 * k) file ≡ len ∷ command ∷ (octets ++ rest)) where
  pub record_inside : 76 * k + (2 + length octets) ≤ length file
  record_inside = omega (arith, length-append octets rest, simp length-drop at (ap length e))

  pub record_pair : pair_of len command (length file - 76 * k) ≡ due_at file (76 * k)
  record_pair =
      let a : get_or file (76 * k) 0 ≡ len = ap (λ (i : ℕ). get_or file i 0) (sym (add-zero (76 * k))) ∙ sym (get_or-drop (76 * k) file 0 0) ∙ ap (λ (s : List ℕ). get_or s 0 0) e in
      let b : get_or file (76 * k + 1) 0 ≡ command = sym (get_or-drop (76 * k) file 1 0) ∙ ap (λ (s : List ℕ). get_or s 1 0) e in
      rw (sym a, sym b) (due_pair file (76 * k) (omega (arith, record_inside)))

  module _ (n : length octets ≡ 74) where
    pub record_sent : sent_at file k ≡ turned_from octets 0 74
    record_sent = ap (λ (s : List ℕ). turned_from s 0 74) (sym (drop-drop 2 (76 * k) file) ∙ ap (drop 2) e) ∙ turned_front 74 0 octets rest (omega arith)

    pub record_rest : drop (76 * suc k) file ≡ rest
    record_rest =
        let z : 76 * suc k ≡ 76 * k + 76 = omega arith in
        ap (λ (i : ℕ). drop i file) z ∙ sym (drop-drop 76 (76 * k) file) ∙ ap (drop 76) e ∙ drop_at octets rest 74 n
