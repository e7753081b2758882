-- Columns laid on a page: black bits set in the two rows of a pair are columns behind those that are there. Assumes nothing.
use mathlib.Core.Path.{◌≡◌, refl, sym, ap, subst, ◌∙◌}
use mathlib.Core.List.{List, [], ◌++◌, append_assoc, append-nil}
use Prim.Native.Nat.{ℕ, zero, suc, ◌+◌, ◌-◌, ◌*◌, ◌/◌, ◌%◌, ◌^◌, ◌<◌, ◌≤◌}
use native.Mathlib.Decide.{dec_lt, dec_le}
use native.Mathlib.Omega.{arith}
use lib.ListN.{length, get_or, replicate, length-append, length-replicate, replicate-append-replicate, get_or-eq_default}
use Rattle.octets.specs.Bits.{num, bit_num}
use Rattle.basics.specs.Octets.{Octets}
use Rattle.basics.proofs.Padding.{behind_new, behind_old, behind_default}
use Rattle.state.specs.declared.Solid.TheVariants.{WW}
use Rattle.state.specs.declared.State.{State}
use Rattle.state.specs.declared.State.TheVariants.{Solid as solid}
use Rattle.state.specs.Pels.{state_of}
use Rattle.bitmap.specs.Form.{top_of, bottom_of, sizes, bitmap_of_rows, row_pairs, bitmap_of}
use Rattle.bitmap.specs.Validity.{most_lines}
use Rattle.bitmap.specs.Laid.{SetIfBlack, Room, Laid}
use Rattle.position.specs.declared.Position.{Position}
use Rattle.position.specs.Position.{pels_per_line, columns_before, advanced, top_bit, bottom_bit}
use Rattle.position.proofs.Positions.{count_after, column_small, advanced_none, advanced_more}
use Rattle.bitmap_lay.specs.Laws.{RoomStart}
use Rattle.bitmap_lay.proofs.Blacks.{blacked_as}
use Rattle.bitmap.proofs.Pels.{pel_at, most_small, length_bitmap, Shows, shows_bitmap, shows_as, shown}
use Rattle.bitmap.proofs.White.{white_columns}
use Rattle.bitmap.proofs.Columns.{pel_in, pel_top, pel_bottom, pel_white, pel_pairs, pel_behind, length_pairs}

-- ---- a row inked, or left

inked_octets : {pel a b : ℕ} {o p : List ℕ} → pel < 2 → SetIfBlack pel a b o p → Octets o → Octets p
inked_octets {pel} {a} {b} {o} {p} h k f i = go (dec_lt pel 1)
  where
    go : Dec (pel < 1) → get_or p i 0 < 256
    go (yes l) = rw (k.white (omega arith)) (f i)
    go (no l) = (k.black (omega arith)).octets f i

pub inked_size : {pel a b : ℕ} {o p : List ℕ} → pel < 2 → SetIfBlack pel a b o p → length p ≡ length o
inked_size {pel} {a} {b} {o} {p} h k = go (dec_lt pel 1)
  where
    go : Dec (pel < 1) → length p ≡ length o
    go (yes l) = ap length (k.white (omega arith))
    go (no l) = (k.black (omega arith)).size

inked_in : {pel a b : ℕ} {o p : List ℕ} (t : ℕ) → pel < 2 → SetIfBlack pel a b o p → a ≤ t → t < b → bit_num o t ≡ 0 → bit_num p t ≡ pel
inked_in {pel} {a} {b} {o} {p} t h k u v e = go (dec_lt pel 1)
  where
    go : Dec (pel < 1) → bit_num p t ≡ pel
    go (yes l) = ap (λ (x : List ℕ). bit_num x t) (k.white (omega arith)) ∙ e ∙ omega arith
    go (no l) = (k.black (omega arith)).black t u v ∙ omega arith

inked_out : {pel a b : ℕ} {o p : List ℕ} (t : ℕ) → pel < 2 → SetIfBlack pel a b o p → (a ≤ t → t < b → ⊥) → bit_num p t ≡ bit_num o t
inked_out {pel} {a} {b} {o} {p} t h k f = go (dec_lt pel 1)
  where
    go : Dec (pel < 1) → bit_num p t ≡ bit_num o t
    go (yes l) = ap (λ (x : List ℕ). bit_num x t) (k.white (omega arith))
    go (no l) = (k.black (omega arith)).kept t f

pub inked_as : {pel a b c d : ℕ} {o p : List ℕ} → a ≡ b → c ≡ d → SetIfBlack pel a c o p → SetIfBlack pel b d o p
inked_as e f k = record { black = λ h. blacked_as e f (k.black h); white = k.white }

-- ---- the columns then

top_pel : (pels : ℕ) → pels < 4 → num (top_of (state_of pels)) ≡ pels / 2
top_pel zero h = refl
top_pel (suc zero) h = refl
top_pel (suc (suc zero)) h = refl
top_pel (suc (suc (suc zero))) h = refl
top_pel (suc (suc (suc (suc n)))) h = absurd (omega arith)

bottom_pel : (pels : ℕ) → pels < 4 → num (bottom_of (state_of pels)) ≡ pels % 2
bottom_pel zero h = refl
bottom_pel (suc zero) h = refl
bottom_pel (suc (suc zero)) h = refl
bottom_pel (suc (suc (suc zero))) h = refl
bottom_pel (suc (suc (suc (suc n)))) h = absurd (omega arith)

-- ---- n columns within a row pair

module _ (pairs : ℕ) (cs : List State) (n pels : ℕ) (small : pels < 4) (fits : length cs % 1726 + n ≤ 1726) (r y : ℕ) (on : r < 2 * pairs) where
  -- a pel of a column laid was white, and is the column's
  was : r / 2 ≡ length cs / 1726 → length cs % 1726 ≤ y → y < 1726 → num (pel_at (row_pairs pairs cs) r y) ≡ 0
  was e h m =
      ap num (pel_pairs pairs cs r y on m ∙ ap (pel_in r) (get_or-eq_default cs (solid WW) {n = 1726 * (r / 2) + y} (omega arith)) ∙ pel_white r)

  is : r / 2 ≡ length cs / 1726 → length cs % 1726 ≤ y → y < length cs % 1726 + n → pel_at (row_pairs pairs (cs ++ replicate n (state_of pels))) r y ≡ pel_in r (state_of pels)
  is e h l = pel_pairs pairs (cs ++ replicate n (state_of pels)) r y on (omega arith) ∙ ap (pel_in r) (behind_new cs n (state_of pels) (solid WW) (1726 * (r / 2) + y) (omega arith) (omega arith))

  -- any other is as it was
  same : (r / 2 ≡ length cs / 1726 → length cs % 1726 ≤ y → y < length cs % 1726 + n → ⊥) → pel_at (row_pairs pairs (cs ++ replicate n (state_of pels))) r y ≡ pel_at (row_pairs pairs cs) r y
  same f = go (dec_lt y 1726)
    where
      go : Dec (y < 1726) → pel_at (row_pairs pairs (cs ++ replicate n (state_of pels))) r y ≡ pel_at (row_pairs pairs cs) r y
      go (yes m) =
          pel_pairs pairs (cs ++ replicate n (state_of pels)) r y on m
          ∙ ap (pel_in r) (behind_old cs n (state_of pels) (solid WW) (1726 * (r / 2) + y) (λ h l. f (omega arith) (omega arith) (omega arith)))
          ∙ sym (pel_pairs pairs cs r y on m)
      go (no m) = pel_behind pairs (cs ++ replicate n (state_of pels)) r y (omega arith) ∙ sym (pel_behind pairs cs r y (omega arith))

is_page : (pairs : ℕ) (cs : List State) {o : List ℕ} → o ≡ bitmap_of pairs cs → o ≡ bitmap_of_rows (row_pairs pairs cs)
unfolding bitmap_of
is_page pairs cs e = e

page_is : (pairs : ℕ) (cs : List State) {o : List ℕ} → o ≡ bitmap_of_rows (row_pairs pairs cs) → o ≡ bitmap_of pairs cs
unfolding bitmap_of
page_is pairs cs e = e

page_size : (pairs : ℕ) (cs : List State) {o : List ℕ} → o ≡ bitmap_of pairs cs → length o ≡ 4 + 432 * pairs
page_size pairs cs e = ap length (is_page pairs cs e) ∙ length_bitmap (row_pairs pairs cs) ∙ omega (arith, length_pairs pairs cs)

-- where `at` columns are laid, the bits of the next one: in the top row, and in the bottom row
abbrev top_at : ℕ → ℕ
top_at at = 32 + (3456 * (at / 1726) + at % 1726)

abbrev bottom_at : ℕ → ℕ
bottom_at at = 32 + (3456 * (at / 1726) + at % 1726) + 1728

module _ (pairs : ℕ) (cs : List State) (n pels : ℕ) {o p q : List ℕ} (small : pels < 4) (fits : length cs % 1726 + n ≤ 1726)
    (s : Shows (row_pairs pairs cs) o)
    (t : SetIfBlack (pels / 2) (top_at (length cs)) (top_at (length cs) + n) o p)
    (b : SetIfBlack (pels % 2) (bottom_at (length cs)) (bottom_at (length cs) + n) p q) where
  -- what is no column laid
  other : (r y : ℕ) → r < 2 * pairs → y < 1728 → (r / 2 ≡ length cs / 1726 → length cs % 1726 ≤ y → y < length cs % 1726 + n → ⊥) →
      bit_num q (32 + (1728 * r + y)) ≡ num (pel_at (row_pairs pairs (cs ++ replicate n (state_of pels))) r y)
  other r y on m f =
      inked_out (32 + (1728 * r + y)) (omega arith) b (λ u v. f (omega arith) (omega arith) (omega arith))
      ∙ inked_out (32 + (1728 * r + y)) (omega arith) t (λ u v. f (omega arith) (omega arith) (omega arith))
      ∙ s.pels r y (omega (arith, length_pairs pairs cs)) m ∙ ap num (sym (same pairs cs n pels small fits r y on f))

  pel_at_lem : (r y : ℕ) → r < 2 * pairs → y < 1728 → Dec (r / 2 ≤ length cs / 1726) → Dec (length cs / 1726 ≤ r / 2) → Dec (length cs % 1726 ≤ y) → Dec (y < length cs % 1726 + n) →
      Dec (r % 2 < 1) → bit_num q (32 + (1728 * r + y)) ≡ num (pel_at (row_pairs pairs (cs ++ replicate n (state_of pels))) r y)
  pel_at_lem r y on m (yes c) (yes d) (yes e) (yes f) (yes g) =
      inked_out (32 + (1728 * r + y)) (omega arith) b (λ u v. omega arith)
      ∙ inked_in (32 + (1728 * r + y)) (omega arith) t (omega arith) (omega arith) (s.pels r y (omega (arith, length_pairs pairs cs)) m ∙ was pairs cs n pels small fits r y on (omega arith) e (omega arith))
      ∙ sym (top_pel pels small) ∙ ap num (sym (is pairs cs n pels small fits r y on (omega arith) e f ∙ pel_top (r / 2) r (state_of pels) (omega arith)))
  pel_at_lem r y on m (yes c) (yes d) (yes e) (yes f) (no g) =
      inked_in (32 + (1728 * r + y)) (omega arith) b (omega arith) (omega arith)
      (inked_out (32 + (1728 * r + y)) (omega arith) t (λ u v. omega arith) ∙ s.pels r y (omega (arith, length_pairs pairs cs)) m ∙ was pairs cs n pels small fits r y on (omega arith) e (omega arith))
      ∙ sym (bottom_pel pels small) ∙ ap num (sym (is pairs cs n pels small fits r y on (omega arith) e f ∙ pel_bottom (r / 2) r (state_of pels) (omega arith)))
  pel_at_lem r y on m (no c) d e f g = other r y on m (λ h k l. omega arith)
  pel_at_lem r y on m (yes c) (no d) e f g = other r y on m (λ h k l. omega arith)
  pel_at_lem r y on m (yes c) (yes d) (no e) f g = other r y on m (λ h k l. e k)
  pel_at_lem r y on m (yes c) (yes d) (yes e) (no f) g = other r y on m (λ h k l. f l)

  shows_laid : Shows (row_pairs pairs (cs ++ replicate n (state_of pels))) q
  shows_laid =
      record {
        size = inked_size (omega arith) b ∙ inked_size (omega arith) t ∙ s.size ∙ ap (λ (m : ℕ). 4 + 216 * m) same_lines;
        octets = inked_octets (omega arith) b (inked_octets (omega arith) t s.octets);
        header = λ i h. inked_out i (omega arith) b (λ u v. omega arith) ∙ inked_out i (omega arith) t (λ u v. omega arith) ∙ s.header i h ∙ ap (λ (m : ℕ). bit_num (sizes m) i) same_lines;
        pels = λ r y h m. pel_at_lem r y (omega (arith, length_pairs pairs (cs ++ replicate n (state_of pels)))) m
            (dec_le (r / 2) (length cs / 1726)) (dec_le (length cs / 1726) (r / 2)) (dec_le (length cs % 1726) y) (dec_lt y (length cs % 1726 + n)) (dec_lt (r % 2) 1);
      }
    where
      same_lines : length (row_pairs pairs cs) ≡ length (row_pairs pairs (cs ++ replicate n (state_of pels)))
      same_lines = length_pairs pairs cs ∙ sym (length_pairs pairs (cs ++ replicate n (state_of pels)))

few_rows : (pairs : ℕ) (cs : List State) → 2 * pairs ≤ most_lines → length (row_pairs pairs cs) ≤ most_lines
few_rows pairs cs h = rw (length_pairs pairs cs) h

laid_count : {at : ℕ} {o p q : List ℕ} (n pels : ℕ) → pels < 4 → at % 1726 + n ≤ 1726 → SetIfBlack (pels / 2) (top_at at) (top_at at + n) o p →
    SetIfBlack (pels % 2) (bottom_at at) (bottom_at at + n) p q → Laid at (replicate n (state_of pels)) o q
laid_count {at} {o} {p} {q} n pels small fits t b = record { laid = laid }
  where
    here : (pairs : ℕ) (cs : List State) → 2 * pairs ≤ most_lines → o ≡ bitmap_of_rows (row_pairs pairs cs) → length cs % 1726 + n ≤ 1726 →
        SetIfBlack (pels / 2) (top_at (length cs)) (top_at (length cs) + n) o p → SetIfBlack (pels % 2) (bottom_at (length cs)) (bottom_at (length cs) + n) p q →
        q ≡ bitmap_of_rows (row_pairs pairs (cs ++ replicate n (state_of pels)))
    here pairs cs few f fits t b =
        shown (row_pairs pairs (cs ++ replicate n (state_of pels))) (few_rows pairs (cs ++ replicate n (state_of pels)) few)
        (shows_laid pairs cs n pels small fits (shows_bitmap (row_pairs pairs cs) (few_rows pairs cs few) f) t b)

    laid : (pairs : ℕ) (cs : List State) → 2 * pairs ≤ most_lines → length cs ≡ at → o ≡ bitmap_of pairs cs → q ≡ bitmap_of pairs (cs ++ replicate n (state_of pels))
    laid pairs cs few e f =
        page_is pairs (cs ++ replicate n (state_of pels))
        (here pairs cs few (is_page pairs cs f) (rw e fits) (rw e t) (rw e b))

pub laid_pair : (at : Position) {o p q : List ℕ} (n pels : ℕ) → pels < 4 → 0 < n → at.column + n ≤ pels_per_line → SetIfBlack (pels / 2) (top_bit at) (top_bit at + n) o p →
    SetIfBlack (pels % 2) (bottom_bit at) (bottom_bit at + n) p q → Laid (columns_before at) (replicate n (state_of pels)) o q
laid_pair at n pels small some fits t b = laid_count n pels small (omega arith) (inked_as (omega arith) (omega arith) t) (inked_as (omega arith) (omega arith) b)

-- ---- runs, one behind the other

pub laid_white : {at : ℕ} (n pels : ℕ) (o : List ℕ) → pels ≡ 0 → Laid at (replicate n (state_of pels)) o o
laid_white {at} n pels o z = rw z (record { laid = λ pairs cs few e f. page_is pairs (cs ++ replicate n (solid WW)) (whites pairs cs few (is_page pairs cs f)) })
  where
    pels_same : (pairs : ℕ) (cs : List State) (r x : ℕ) → r < length (row_pairs pairs cs) → Dec (x < 1726) → pel_at (row_pairs pairs (cs ++ replicate n (solid WW))) r x ≡ pel_at (row_pairs pairs cs) r x
    pels_same pairs cs r x h (yes l) =
        let on : r < 2 * pairs = omega (arith, length_pairs pairs cs) in
        pel_pairs pairs (cs ++ replicate n (solid WW)) r x on l ∙ ap (pel_in r) (behind_default cs n (solid WW) (1726 * (r / 2) + x)) ∙ sym (pel_pairs pairs cs r x on l)
    pels_same pairs cs r x h (no l) = pel_behind pairs (cs ++ replicate n (solid WW)) r x (omega arith) ∙ sym (pel_behind pairs cs r x (omega arith))

    whites : (pairs : ℕ) (cs : List State) → 2 * pairs ≤ most_lines → o ≡ bitmap_of_rows (row_pairs pairs cs) → o ≡ bitmap_of_rows (row_pairs pairs (cs ++ replicate n (solid WW)))
    whites pairs cs few f =
        shown (row_pairs pairs (cs ++ replicate n (solid WW))) (few_rows pairs (cs ++ replicate n (solid WW)) few)
        (shows_as (length_pairs pairs (cs ++ replicate n (solid WW)) ∙ sym (length_pairs pairs cs)) (λ r x h l. pels_same pairs cs r x h (dec_lt x 1726)) (shows_bitmap (row_pairs pairs cs) (few_rows pairs cs few) f))

pub laid_none : {at : ℕ} (o : List ℕ) → Laid at [] o o
laid_none {at} o = record { laid = λ pairs cs few e f. rw (append-nil cs) f }

pub laid_more : {at : ℕ} {xs ys : List State} {o p q : List ℕ} (b : ℕ) → b ≡ at + length xs → Laid at xs o p → Laid b ys p q → Laid at (xs ++ ys) o q
laid_more {at} {xs} {ys} b x l r =
    record { laid = λ pairs cs few e f. r.laid pairs (cs ++ xs) few (simp length-append (omega arith)) (l.laid pairs cs few e f) ∙ ap (bitmap_of pairs) (append_assoc cs xs ys) }

pub laid_as : {at : ℕ} {xs ys : List State} {o p : List ℕ} → xs ≡ ys → Laid at xs o p → Laid at ys o p
laid_as {at} {xs} {ys} {o} {p} e l = subst (λ (zs : List State). Laid at zs o p) e l

-- n columns of one state, and m more
pub laid_run : {at : ℕ} {o p q : List ℕ} (n b m k : ℕ) (s : State) → b ≡ at + n → k ≡ n + m → Laid at (replicate n s) o p → Laid b (replicate m s) p q → Laid at (replicate k s) o q
laid_run {at} n b m k s x y l r =
    laid_as (replicate-append-replicate n m s ∙ ap (λ (i : ℕ). replicate i s) (sym y)) (laid_more b (omega (arith, length-replicate {0} {A = State} n s)) l r)

-- a page just cleared
pub room_start : RoomStart
room_start o pairs n few h e = record { pairs = pairs; few = few; room = omega arith; columns = []; count = refl; page = e ∙ white_columns pairs }

pub room_more : {at n : ℕ} {xs : List State} {o p : List ℕ} (b m : ℕ) → Room at n o → Laid at xs o p → b ≡ at + length xs → length xs + m ≤ n → Room b m p
room_more {at} {n} {xs} b m r l x h =
    record {
      pairs = r.pairs;
      few = r.few;
      room = omega (arith, r.room);
      columns = r.columns ++ xs;
      count = simp length-append (omega (arith, r.count));
      page = l.laid r.pairs r.columns r.few r.count r.page;
    }

pub room_run : {at n : ℕ} {o p : List ℕ} (k b m : ℕ) (s : State) → Room at n o → Laid at (replicate k s) o p → b ≡ at + k → k + m ≤ n → Room b m p
room_run {at} {n} k b m s r l x h = let e : _ = length-replicate {0} {A = State} k s in room_more b m r l (omega arith) (omega arith)

pub room_fewer : {at n : ℕ} {o : List ℕ} (m : ℕ) → Room at n o → m ≤ n → Room at m o
room_fewer m r h = record { pairs = r.pairs; few = r.few; room = omega (arith, r.room); columns = r.columns; count = r.count; page = r.page }

pub room_small : {at n : ℕ} {o : List ℕ} → Room at n o → at + n < 2 ^ 60
room_small r = omega (arith, r.room, r.few, most_small)

-- the size of a page with room
pub room_size : {at n : ℕ} {o : List ℕ} (r : Room at n o) → length o ≡ 4 + 432 * r.pairs
room_size r = page_size r.pairs r.columns r.page

pub pair_fits : (at : Position) {n : ℕ} {o : List ℕ} → Room (columns_before at) n o → 0 < n → at.column + n ≤ pels_per_line → (bottom_bit at + n ≤ 8 * length o) × (bottom_bit at + n < 2 ^ 60)
pair_fits at {n} {o} r h l = (omega (arith, r.room, room_size r), omega (arith, r.room, r.few, most_small))

-- ---- a run from a position on

-- of n columns from `at` on `left` are left, and the next one goes to `next`
pub record Midway (at next : Position) (n left pels : ℕ) (o₀ o : List ℕ) : Type 0 where
  pub within : left ≤ n
  pub is : next ≡ advanced at (n - left)
  pub column : next.column < pels_per_line
  pub size : length o ≡ length o₀
  pub laid : Laid (columns_before at) (replicate (n - left) (state_of pels)) o₀ o

run_none : {at : ℕ} (n pels : ℕ) (o : List ℕ) → Laid at (replicate (n - n) (state_of pels)) o o
run_none n pels o = let z : n - n ≡ 0 = omega arith in rw z (laid_none o)

pub midway_start : {at : Position} (n pels : ℕ) (o : List ℕ) → at.column < pels_per_line → Midway at at n n pels o o
midway_start {at} n pels o h =
    let z : n - n ≡ 0 = omega arith in record { within = omega arith; is = sym (ap (advanced at) z ∙ advanced_none at h); column = h; size = refl; laid = run_none n pels o }

module _ {at next : Position} {n left pels : ℕ} {o₀ o : List ℕ} (w : Midway at next n left pels o₀ o) where
  midway_count : columns_before next ≡ columns_before at + (n - left)
  midway_count = rw w.is (count_after (columns_before at + (n - left)))

  pub midway_room : (m : ℕ) → Room (columns_before at) n o₀ → m ≤ left → Room (columns_before next) m o
  midway_room m r h = room_run (n - left) (columns_before next) m (state_of pels) r w.laid midway_count (omega (arith, w.within))

  pub midway_next : {after : Position} {p : List ℕ} (m rest : ℕ) → m ≤ left → rest ≡ left - m → after ≡ advanced next m → Laid (columns_before next) (replicate m (state_of pels)) o p →
      length p ≡ length o → Midway at after n rest pels o₀ p
  midway_next {after} m rest h k e l s =
      record {
        within = omega (arith, w.within);
        is = e ∙ ap (λ (q : Position). advanced q m) w.is ∙ advanced_more at (n - left) m (n - rest) (omega (arith, w.within));
        column = rw e (column_small (columns_before next + m));
        size = s ∙ w.size;
        laid = laid_run (n - left) (columns_before next) m (n - rest) (state_of pels) midway_count (omega (arith, w.within)) w.laid l;
      }

  pub midway_end : left ≡ 0 → (next ≡ advanced at n) × Laid (columns_before at) (replicate n (state_of pels)) o₀ o
  midway_end h =
      let z : n - left ≡ n = omega arith in
      (w.is ∙ ap (advanced at) z, laid_as (ap (λ (i : ℕ). replicate i (state_of pels)) z) w.laid)
