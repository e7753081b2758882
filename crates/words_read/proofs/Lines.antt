-- The line at the front of words, judged and drawn word by word. Assumes nothing.
use mathlib.Core.Bool.{Bool, true, false, cond}
use mathlib.Core.Path.{◌≡◌, refl, sym, ap, ap₂, subst, ◌∙◌}
use mathlib.Core.List.{List, [], ◌∷◌, ◌++◌, append_assoc}
use Prim.Native.Nat.{ℕ, zero, suc, ◌+◌, ◌-◌, ◌*◌, ◌<◌, ◌≤◌}
use native.Mathlib.Decide.{dec_lt}
use native.Mathlib.Numerals.{add-one}
use native.Mathlib.Omega.{arith}
use lib.IntN.{ℤ, pos, negsuc, nat_abs}
use lib.ListN.{length, get_or, take, drop, replicate, length-append, take-append-drop, drop_of_length-le}
use lib.Seq.{drop-cons, take-suc, take_at, take-take, length-take-le}
use Rattle.basics.specs.Octets.{Octets}
use Rattle.basics.proofs.Apart.{differ}
use Rattle.basics.proofs.Padding.{behind_new, behind_old, behind_default}
use Rattle.octets.specs.Bits.{Bit, O, I, num, bit_num, packed}
use Rattle.octets.proofs.BitsEqual.{octets_same}
use Rattle.octets.proofs.Packed.{length_packed, octet_packed, bit_packed, packed_none}
use Rattle.bitmap.specs.Laid.{SetIfBlack}
use Rattle.refusal.specs.Reply.{gives, refuses, Outcome}
use Rattle.refusal.proofs.Replies.{with_room, no_room}
use Rattle.words_read.specs.declared.Line.{Line}
use Rattle.words.specs.declared.Front.{Front}
use Rattle.words.specs.declared.Front.TheVariants.{Line as front_of, EndOfPage as at_page_end, More}
use Rattle.words_read.specs.declared.WordEffect.TheVariants.{Run, EndOfLine, EndOfPage}
use Rattle.words_read.specs.Scan.{empty_line, ending, next_of, line_chosen, scan_line, front_cut}
use Rattle.words.specs.Words.{colour_of, pels_of_words, row_of, fits, line_allowed}
use Rattle.words.specs.Lines.{FrontLine, a_line, page_end, no_line, unended, front_from, front_line, front_reply, drawn_line, drawn_front, line_of_words}
use Rattle.words.proofs.Begun.{pels_append, pels_snoc, pels_more, fits_none}
use Rattle.words.proofs.Cuts.{no_zero_snoc}
use Rattle.words.proofs.Parts.{front_unfit}
use Rattle.words.proofs.Rows.{NoZero, fits_parts, allowed_fits}
use Rattle.words_read.proofs.Scans.{last_of, line_of as so_far, going_is, ending_is}
use Rattle.std.specs.Prelude.{Option, Some, None}

-- ---- judged

scan_end : (line : List ℤ) (n : ℕ) (f : Line → Option Front) (t : Bool) → n ≡ length line → line_chosen (cond t (Some EndOfLine) None) n f ≡ front_cut (cond t (a_line line) no_line)
scan_end line n f true e = ap (λ (m : ℕ). Some (front_of (m + 1))) e
scan_end line n f false e = refl

scan_run : (ws line : List ℤ) (n k : ℕ) (t : Bool) → fits line ≡ t → (fits line ≡ true → scan_line ws (so_far line) k ≡ front_cut (front_from ws line)) →
    line_chosen (cond t (Some (Run (so_far line))) None) n (λ m. scan_line ws m k) ≡ front_cut (front_from ws line)
scan_run ws line n k true f h = h f
scan_run ws line n k false f h = ap front_cut (sym (front_unfit ws line f))

-- behind the words of a line so far
scan_front : (ws line : List ℤ) (n : ℕ) → NoZero line → fits line ≡ true → n ≡ length line → scan_line ws (so_far line) n ≡ front_cut (front_from ws line)
unfolding scan_line front_from ending last_of pels_of_words
scan_front [] line n z f e = rw f refl
scan_front (pos zero ∷ ws) [] n z f e = refl
scan_front (pos zero ∷ ws) (v ∷ line) n z f e = rw (ending_is v line z f) (scan_end (v ∷ line) n _ (line_allowed (v ∷ line)) e)
scan_front (pos (suc m) ∷ ws) line n z f e =
    let next = line ++ (pos (suc m) ∷ []) in
    let l = length-append line (pos (suc m) ∷ []) in
    rw (going_is line (pos (suc m)) f) (scan_run ws next n (n + 1) (fits next) refl (λ g. scan_front ws next (n + 1) (no_zero_snoc line (pos (suc m)) z (omega arith)) g (omega arith)))
scan_front (negsuc m ∷ ws) line n z f e =
    let next = line ++ (negsuc m ∷ []) in
    let l = length-append line (negsuc m ∷ []) in
    rw (going_is line (negsuc m) f) (scan_run ws next n (n + 1) (fits next) refl (λ g. scan_front ws next (n + 1) (no_zero_snoc line (negsuc m) z (omega arith)) g (omega arith)))

pub scan_line_said : (ws : List ℤ) → front_cut (front_line ws) ≡ scan_line ws empty_line 0
unfolding last_of pels_of_words
scan_line_said ws = sym (scan_front ws [] 0 tt fits_none refl)

-- from word i on
module _ (ws : List ℤ) (i : ℕ) (l : Line) where
  scan_at : i < length ws → scan_line (drop i ws) l i ≡ line_chosen (next_of l (get_or ws i (pos 0))) i (λ m. scan_line (drop (i + 1) ws) m (i + 1))
  unfolding scan_line
  scan_at h = rw (drop-cons ws i (pos 0) h, add-one i) refl

  pub line_wrong : i < length ws → next_of l (get_or ws i (pos 0)) ≡ None → scan_line (drop i ws) l i ≡ None
  line_wrong h e = scan_at h ∙ rw e refl

  pub line_page : i < length ws → next_of l (get_or ws i (pos 0)) ≡ Some EndOfPage → scan_line (drop i ws) l i ≡ Some at_page_end
  line_page h e = scan_at h ∙ rw e refl

  pub line_end_lem : i < length ws → next_of l (get_or ws i (pos 0)) ≡ Some EndOfLine → scan_line (drop i ws) l i ≡ Some (front_of (i + 1))
  line_end_lem h e = scan_at h ∙ rw e refl

  pub line_on : {m : Line} → i < length ws → next_of l (get_or ws i (pos 0)) ≡ Some (Run m) → scan_line (drop (i + 1) ws) m (i + 1) ≡ scan_line (drop i ws) l i
  line_on h e = sym (scan_at h ∙ rw e refl)

  pub line_none : length ws ≤ i → scan_line (drop i ws) l i ≡ Some More
  unfolding scan_line
  line_none h = rw (drop_of_length-le ws {i = i} h) refl

-- ---- the words of the line

-- what was counted are the words of an allowed line, and its 0
pub record Counted (ws : List ℤ) (used : ℕ) : Type 0 where
  pub front : front_line ws ≡ a_line (take (used - 1) ws)
  pub allowed : line_allowed (take (used - 1) ws) ≡ true
  pub some : 0 < used
  pub inside : used ≤ length ws

-- a line found, and the words behind its 0
found : (us line l : List ℤ) → front_from us line ≡ a_line l → (rest : List ℤ) × (line ++ us ≡ l ++ (pos 0 ∷ rest)) × (line_allowed l ≡ true)
unfolding front_from
found [] line l e = absurd (go (fits line) e)
  where
    go : (t : Bool) → cond t unended no_line ≡ a_line l → ⊥
    go true e = differ cc
    go false e = differ cc
found (pos zero ∷ us) [] l e = differ cc
found (pos zero ∷ us) (v ∷ line) l e = go (line_allowed (v ∷ line)) refl e
  where
    go : (t : Bool) → line_allowed (v ∷ line) ≡ t → cond t (a_line (v ∷ line)) no_line ≡ a_line l → (rest : List ℤ) × ((v ∷ line) ++ (pos 0 ∷ us) ≡ l ++ (pos 0 ∷ rest)) × (line_allowed l ≡ true)
    go true a e = let q : v ∷ line ≡ l = cc in (us, ap (λ (x : List ℤ). x ++ (pos 0 ∷ us)) q, subst (λ (x : List ℤ). line_allowed x ≡ true) q a)
    go false a e = differ cc
found (pos (suc n) ∷ us) line l e = let r = found us (line ++ (pos (suc n) ∷ [])) l e in (r.0, sym (append_assoc line (pos (suc n) ∷ []) us) ∙ r.1, r.2)
found (negsuc n ∷ us) line l e = let r = found us (line ++ (negsuc n ∷ [])) l e in (r.0, sym (append_assoc line (negsuc n ∷ []) us) ∙ r.1, r.2)

pub counted_line : (ws : List ℤ) {used : ℕ} → front_cut (front_line ws) ≡ Some (front_of used) → Counted ws used
counted_line ws {used} e = go (front_line ws) refl e
  where
    inner : (m : ℕ) → ◌≡◌ {A = Option Front} (Some (front_of m)) (Some (front_of used)) → m ≡ used
    inner m q = cc

    go : (x : FrontLine) → front_line ws ≡ x → front_cut x ≡ Some (front_of used) → Counted ws used
    go (a_line line) p q =
        let r = found ws [] line p in
        let m : length line + 1 ≡ used = inner (length line + 1) q in
        let k : length line ≡ used - 1 = omega (arith, m) in
        let t : take (used - 1) ws ≡ line = ap (take (used - 1)) r.1 ∙ take_at line (pos 0 ∷ r.0) (used - 1) k in
        record { front = p ∙ ap a_line (sym t); allowed = rw t r.2; some = omega (arith, m); inside = omega (arith, m, simp length-append at (ap length r.1)) }
    go page_end p q = differ cc
    go no_line p q = differ cc
    go unended p q = differ cc

-- ---- the answers

module _ (ws : List ℤ) (o : List ℕ) where
  pub wrong_answer : front_cut (front_line ws) ≡ None → (refuses 22 0, o) ≡ line_of_words ws o
  unfolding line_of_words
  wrong_answer e = go (front_line ws) e
    where
      go : (x : FrontLine) → front_cut x ≡ None → (refuses 22 0, o) ≡ drawn_front x o
      go (a_line line) e = differ cc
      go page_end e = differ cc
      go no_line e = refl
      go unended e = differ cc

  pub page_answer : front_cut (front_line ws) ≡ Some at_page_end → (gives at_page_end, o) ≡ line_of_words ws o
  unfolding line_of_words
  page_answer e = go (front_line ws) e
    where
      go : (x : FrontLine) → front_cut x ≡ Some at_page_end → (gives at_page_end, o) ≡ drawn_front x o
      go (a_line line) e = differ cc
      go page_end e = refl
      go no_line e = differ cc
      go unended e = differ cc

  pub more_answer : front_cut (front_line ws) ≡ Some More → (gives More, o) ≡ line_of_words ws o
  unfolding line_of_words
  more_answer e = go (front_line ws) e
    where
      go : (x : FrontLine) → front_cut x ≡ Some More → (gives More, o) ≡ drawn_front x o
      go (a_line line) e = differ cc
      go page_end e = differ cc
      go no_line e = differ cc
      go unended e = refl

  module _ {used : ℕ} (e : front_cut (front_line ws) ≡ Some (front_of used)) where
    size_line : length (drawn_line (take (used - 1) ws)) ≡ 216
    size_line = length_packed 216 (row_of (take (used - 1) ws))

    words_and_0 : length (take (used - 1) ws) + 1 ≡ used
    words_and_0 = let c = counted_line ws e in omega (arith, c.some, length-take-le (used - 1) ws (omega (arith, c.inside)))

    pub short_answer : length o < 216 → (refuses 16 0, o) ≡ line_of_words ws o
    unfolding line_of_words
    short_answer h = rw (counted_line ws e).front (no_room _ 0 (drawn_line (take (used - 1) ws)) o (omega (arith, size_line)))

    pub line_answer : {p : List ℕ} → 216 ≤ length o → p ≡ drawn_line (take (used - 1) ws) → (gives (front_of used), p ++ drop 216 o) ≡ line_of_words ws o
    unfolding line_of_words
    line_answer h q =
        rw ((counted_line ws e).front, q)
        (ap₂ (λ (k m : ℕ). (gives (front_of k), drawn_line (take (used - 1) ws) ++ drop m o)) (sym words_and_0) (sym size_line) ∙ with_room _ 0 (drawn_line (take (used - 1) ws)) o (omega (arith, size_line)))

-- where there is room
pub roomy_answer : (ws : List ℤ) (o : List ℕ) → 216 ≤ length o → (line_of_words ws o).0 ≡ front_reply (front_line ws)
unfolding line_of_words
roomy_answer ws o h = go (front_line ws)
  where
    go : (x : FrontLine) → (drawn_front x o).0 ≡ front_reply x
    go (a_line line) = ap (λ (d : Outcome Front ℕ). d.0) (sym (with_room (front_of (length line + 1)) 0 (drawn_line line) o (omega (arith, length_packed 216 (row_of line)))))
    go page_end = refl
    go no_line = refl
    go unended = refl

-- a line's words are some, and stand there
pub words_used : (ws : List ℤ) {n : ℕ} → gives (front_of n) ≡ front_reply (front_line ws) → (0 < n) × (n ≤ length ws)
words_used ws {n} e = go (front_line ws) refl e
  where
    go : (x : FrontLine) → front_line ws ≡ x → gives (front_of n) ≡ front_reply x → (0 < n) × (n ≤ length ws)
    go (a_line line) p q =
        let k : n ≡ length line + 1 = cc in
        let r = found ws [] line p in
        let l = simp length-append at (ap length r.1) in
        (omega arith, omega (arith, l))
    go page_end p q = differ cc
    go no_line p q = differ cc
    go unended p q = differ cc

-- ---- drawn

-- bits as octets: white behind them changes nothing, and black sets their bits
packed_same : (m : ℕ) (bs : List Bit) {p : List ℕ} → length p ≡ m → Octets p → ((t : ℕ) → t < 8 * m → bit_num p t ≡ num (get_or bs t O)) → p ≡ packed m bs
packed_same m bs {p} e o f =
    octets_same p (packed m bs) (e ∙ sym (length_packed m bs)) o (octet_packed m bs) (λ t h. let k : t < 8 * m = omega arith in f t k ∙ sym (bit_packed m t bs k))

packed_white : (m n : ℕ) (bs : List Bit) → packed m bs ≡ packed m (bs ++ replicate n O)
packed_white m n bs = packed_same m (bs ++ replicate n O) (length_packed m bs) (octet_packed m bs) (λ t h. bit_packed m t bs h ∙ ap num (sym (behind_default bs n O t)))

packed_run : (m n : ℕ) (bs : List Bit) (c : Bit) {p : List ℕ} → SetIfBlack (num c) (length bs) (length bs + n) (packed m bs) p → p ≡ packed m (bs ++ replicate n c)
packed_run m n bs O k = k.white refl ∙ packed_white m n bs
packed_run m n bs I {p} k =
    let b = k.black refl in
    packed_same m (bs ++ replicate n I) (b.size ∙ length_packed m bs) (b.octets (octet_packed m bs)) (λ t h. go t h (dec_lt t (length bs)) (dec_lt t (length bs + n)))
  where
    go : (t : ℕ) → t < 8 * m → Dec (t < length bs) → Dec (t < length bs + n) → bit_num p t ≡ num (get_or (bs ++ replicate n I) t O)
    go t h (no u) (yes w) = (k.black refl).black t (omega arith) w ∙ ap num (sym (behind_new bs n I O t (omega arith) w))
    go t h (yes u) w = (k.black refl).kept t (λ x y. omega arith) ∙ bit_packed m t bs h ∙ ap num (sym (behind_old bs n I O t (λ x y. omega arith)))
    go t h (no u) (no w) = (k.black refl).kept t (λ x y. w y) ∙ bit_packed m t bs h ∙ ap num (sym (behind_old bs n I O t (λ x y. w y)))

-- the pels of the first i words stand, and the next go to bit `at`
pub record LineDrawn (ws : List ℤ) (i at : ℕ) (o : List ℕ) : Type 0 where
  pub place : at ≡ length (pels_of_words (take i ws))
  pub octets : o ≡ packed 216 (pels_of_words (take i ws))

pub line_begun : (ws : List ℤ) {n : ℕ} {p : List ℕ} → n ≡ 216 → p ≡ replicate n 0 → LineDrawn ws 0 0 p
unfolding pels_of_words
line_begun ws e q = record { place = refl; octets = q ∙ ap (λ (k : ℕ). replicate k 0) e ∙ sym (packed_none 216) }

module _ {ws : List ℤ} {used i at : ℕ} {o : List ℕ} (e : front_cut (front_line ws) ≡ Some (front_of used)) (h : i < used - 1) (l : LineDrawn ws i at o) where
  next_words : take (i + 1) ws ≡ take i ws ++ (get_or ws i (pos 0) ∷ [])
  next_words = rw (add-one i) (take-suc ws i (pos 0) (let k = (counted_line ws e).inside in omega arith))

  pub line_room : at + nat_abs (get_or ws i (pos 0)) ≤ 1726
  line_room =
      let c = counted_line ws e in
      let a = take-append-drop (i + 1) (take (used - 1) ws) in
      let b = take-take (i + 1) (used - 1) ws (omega arith) in
      let f = (fits_parts (take (used - 1) ws) (allowed_fits (take (used - 1) ws) c.allowed)).1 in
      let g = pels_append (take (i + 1) (take (used - 1) ws)) (drop (i + 1) (take (used - 1) ws)) in
      let k = pels_snoc (take i ws) (get_or ws i (pos 0)) in
      omega (arith, l.place, f, rw (a, b, next_words) at g, k)

  pub line_next : {q : ℕ} {p : List ℕ} → q ≡ at + nat_abs (get_or ws i (pos 0)) → SetIfBlack (num (colour_of (get_or ws i (pos 0)))) at (at + nat_abs (get_or ws i (pos 0))) o p → LineDrawn ws (i + 1) q p
  line_next {q} {p} f k =
      record {
        place = rw next_words (f ∙ omega (arith, l.place, pels_snoc (take i ws) (get_or ws i (pos 0))));
        octets = rw (next_words, pels_more (take i ws) (get_or ws i (pos 0))) (packed_run 216 (nat_abs (get_or ws i (pos 0))) (pels_of_words (take i ws)) (colour_of (get_or ws i (pos 0))) (rw (l.place, l.octets) at k));
      }

pub line_drawn : {ws : List ℤ} {n i at : ℕ} {o : List ℕ} → i ≡ n → LineDrawn ws i at o → o ≡ drawn_line (take n ws)
unfolding row_of
line_drawn {ws} {n} {i} e l = l.octets ∙ rw e (packed_white 216 (1726 - length (pels_of_words (take n ws))) (pels_of_words (take n ws)))
