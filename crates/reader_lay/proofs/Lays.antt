-- The columns that entries, frames and records lay, one behind the other. Assumes nothing.
use mathlib.Core.Path.{◌≡◌, refl, sym, ap, subst, ◌∙◌}
use mathlib.Core.Bool.{Bool, cond}
use mathlib.Core.List.{List, [], ◌∷◌, ◌++◌, map}
use Prim.Native.Nat.{ℕ, zero, suc, ◌+◌, ◌*◌, ◌-◌, ◌/◌, ◌%◌, ◌≤◌, ◌<◌}
use native.Mathlib.Numerals.{add-one}
use native.Mathlib.Omega.{arith}
use native.Mathlib.Nat.{sub-zero}
use lib.Dec.{eqb}
use lib.ListN.{length, take, drop, replicate, get_or, length-append, length-map, length-replicate}
use lib.Seq.{drop-length}
use Rattle.state.specs.declared.State.{State}
use Rattle.state.specs.Pels.{pels_of, state_of}
use Rattle.state.proofs.States.{pels_lt, state_pels}
use Rattle.refusal.specs.declared.Fault.{Fault}
use Rattle.frame.specs.declared.Header.{Header}
use Rattle.frame.specs.Layout.{header_of}
use Rattle.diagram.specs.declared.End.{End}
use Rattle.diagram.specs.declared.End.TheVariants.{At, Closed, Open}
use Rattle.part_notes.specs.Notes.{spread}
use Rattle.part_notes.proofs.Spread.{spread_at, lay_length}
use Rattle.bitmap.specs.Form.{bitmap_of_rows}
use Rattle.bitmap.specs.Laid.{Room, Laid}
use Rattle.bitmap_lay.proofs.Lays.{room_fewer, room_run, room_more, laid_none, laid_as, laid_more}
use Rattle.position.specs.declared.Position.{Position}
use Rattle.position.specs.Position.{pels_per_line, columns_before, advanced}
use Rattle.position.proofs.Positions.{count_after, column_small, position_of}
use Rattle.chain.specs.declared.Image.{Image}
use Rattle.chain.specs.declared.NextImage.{NextImage}
use Rattle.frame.specs.declared.FrameKind.TheVariants.{Data}
use Rattle.records.specs.declared.Kind.TheVariants.{Frame}
use Rattle.records.specs.Records.{due_at, sent_at}
use Rattle.chain.specs.Chain.{blank, open_in, opening, columns_in, reading_of, frame_columns, Held, Chains}
use Rattle.reader_record.specs.Record.{due_columns, columns_at}
use Rattle.reader_record.specs.LayingPass.{image_by, due_image, image_at, columns_over}
use Rattle.reader_record.proofs.Grows.{record_grows}
use Rattle.std.specs.Prelude.{Result, Ok, Err}
use Rattle.records.specs.declared.Kind.{Kind}
use Rattle.refusal.specs.declared.Reason.{Reason}

states_append : (xs ys : List ℕ) → map state_of (xs ++ ys) ≡ map state_of xs ++ map state_of ys
states_append [] ys = refl
states_append (x ∷ xs) ys = ap (λ (zs : List State). state_of x ∷ zs) (states_append xs ys)

states_run : (n x : ℕ) → map state_of (replicate n x) ≡ replicate n (state_of x)
states_run zero x = refl
states_run (suc n) x = ap (λ (zs : List State). state_of x ∷ zs) (states_run n x)

states_at : (es : List ℕ) (i x : ℕ) → i < length es → x ≡ get_or es i 0 →
    map state_of (spread (drop i es)) ≡ replicate (x / 4) (state_of (x % 4)) ++ map state_of (spread (drop (i + 1) es))
states_at es i x h e =
    rw (e, add-one i, spread_at es i h, states_append (replicate (get_or es i 0 / 4) (get_or es i 0 % 4)) (spread (drop (suc i) es)), states_run (get_or es i 0 / 4) (get_or es i 0 % 4)) refl

-- entry x, before the entries from i + 1 on
module _ {at : ℕ} {o : List ℕ} (es : List ℕ) (i x : ℕ) (h : i < length es) (e : x ≡ get_or es i 0) (r : Room at (length (spread (drop i es))) o) where
  pub entry_room : Room at (x / 4) o
  entry_room = room_fewer (x / 4) r (omega (arith, lay_length es i x h e))

  module _ {p : List ℕ} (l : Laid at (replicate (x / 4) (state_of (x % 4))) o p) where
    pub entry_next : Room (at + x / 4) (length (spread (drop (i + 1) es))) p
    entry_next = room_run (x / 4) (at + x / 4) _ (state_of (x % 4)) r l refl (omega (arith, lay_length es i x h e))

    pub entry_laid : {q : List ℕ} → Laid (at + x / 4) (map state_of (spread (drop (i + 1) es))) p q → Laid at (map state_of (spread (drop i es))) o q
    entry_laid m = laid_as (sym (states_at es i x h e)) (laid_more (at + x / 4) (ap (λ (n : ℕ). at + n) (sym (length-replicate (x / 4) (state_of (x % 4))))) l m)

pub no_entry : {at : ℕ} (es : List ℕ) (i : ℕ) (o : List ℕ) → i ≡ length es → Laid at (map state_of (spread (drop i es))) o o
unfolding spread
no_entry es i o h = rw (h, drop-length es) (laid_none o)

-- entries laid from the position `at` on, up to entry i, which goes to `next`: what is laid from there on is laid from the start on
pub record Along (at next : Position) (es : List ℕ) (i : ℕ) (o₀ o : List ℕ) : Type 0 where
  pub within : i ≤ length es
  pub size : length o ≡ length o₀
  pub column : next.column < pels_per_line
  pub count : columns_before at + length (spread es) ≡ columns_before next + length (spread (drop i es))
  pub room : Room (columns_before next) (length (spread (drop i es))) o
  pub on : (p : List ℕ) → Laid (columns_before next) (map state_of (spread (drop i es))) o p → Laid (columns_before at) (map state_of (spread es)) o₀ p

module _ {at next : Position} {es : List ℕ} {i : ℕ} {o₀ o : List ℕ} (a : Along at next es i o₀ o) where
  pub along_next : {after : Position} {p : List ℕ} (x : ℕ) → i < length es → x ≡ get_or es i 0 → after ≡ advanced next (x / 4) →
      Laid (columns_before next) (replicate (x / 4) (state_of (x % 4))) o p → length p ≡ length o → Along at after es (i + 1) o₀ p
  along_next {after} x h e f l s =
      let z : columns_before after ≡ columns_before next + x / 4 = rw f (count_after (columns_before next + x / 4)) in
      record {
        within = omega arith;
        size = s ∙ a.size;
        column = rw f (column_small (columns_before next + x / 4));
        count = omega (arith, z, a.count, lay_length es i x h e);
        room = rw z (entry_next es i x h e a.room l);
        on = λ p m. a.on p (entry_laid es i x h e a.room l (rw z at m));
      }

  pub along_end : i ≡ length es → (next ≡ advanced at (length (spread es))) × Laid (columns_before at) (map state_of (spread es)) o₀ o
  unfolding spread
  along_end h = (position_of next (columns_before at + length (spread es)) a.column (a.count ∙ none_left), a.on o (no_entry es i o h))
    where
      none_left : columns_before next + length (spread (drop i es)) ≡ columns_before next
      none_left = rw (h, drop-length es) (omega arith)

states_pels : (cs : List State) → map state_of (map pels_of cs) ≡ cs
states_pels [] = refl
states_pels (c ∷ cs) = rw (state_pels c, states_pels cs) refl

-- the columns of one entry
entry_run : (n x : ℕ) → x < 4 → spread ((4 * n + x) ∷ []) ≡ replicate n x ++ []
unfolding spread
entry_run n x h =
    let d : (4 * n + x) / 4 ≡ n = omega arith in
    let m : (4 * n + x) % 4 ≡ x = omega arith in
    rw (d, m) refl

opening_run : (e : End) (t : State) → opening e t ≡ map state_of (spread ((4 * open_in e + pels_of t) ∷ []))
opening_run (At s) t = rw (entry_run 0 (pels_of t) (pels_lt t)) refl
opening_run (Closed s) t = rw (entry_run 0 (pels_of t) (pels_lt t)) refl
opening_run Open t = rw (entry_run 1 (pels_of t) (pels_lt t), state_pels t) refl

-- a frame that is refused
module _ {im : Image} {h : Header} {s es : List ℕ} {r : Result NextImage Fault} {f : Fault} (k : Chains im h s r es) (e : r ≡ Err f) where
  pub unchained_image : im ≡ image_by im h s
  unfolding image_by
  unchained_image = rw (sym k.is ∙ e) refl

  pub unchained_laid : [] ≡ frame_columns im h s
  unfolding frame_columns
  unchained_laid = rw (sym k.is ∙ e) refl

-- one that is taken
module _ {im : Image} {h : Header} {s es : List ℕ} {r : Result NextImage Fault} {g : NextImage} (k : Chains im h s r es) (e : r ≡ Ok g) where
  pub chained_image : g.image ≡ image_by im h s
  unfolding image_by
  chained_image = rw (sym k.is ∙ e) refl

  pub chained_held : (spread (take g.steps es) ≡ map pels_of (columns_in (reading_of im h s))) × (g.steps ≤ length es)
  chained_held = subst (λ (x : Result NextImage Fault). Held x (reading_of im h s) es) e k.held

  -- laid in two: the column left open, as an entry x, and those of the steps
  module _ (n x : ℕ) (u : n ≡ open_in im.end) (v : x ≡ 4 * n + pels_of h.state) where
    pub open_length : length (spread (x ∷ [])) ≡ n
    open_length = rw (v, entry_run n (pels_of h.state) (pels_lt h.state)) (simp (length-append, length-replicate) (omega arith))

    pub chained_laid : map state_of (spread (x ∷ [])) ++ map state_of (spread (take g.steps es)) ≡ frame_columns im h s
    unfolding frame_columns
    chained_laid = rw (v, u, ← opening_run im.end h.state, chained_held.0, states_pels (columns_in (reading_of im h s)), sym k.is ∙ e) refl

    pub chained_length : n + length (spread (take g.steps es)) ≡ length (frame_columns im h s)
    chained_length = rw (← chained_laid) (simp (length-append, length-map, open_length) refl)

-- the image after record k, and the columns that it lays
pub record LayingEffect (file : List ℕ) (k : ℕ) (im after : Image) (cs : List State) : Type 0 where
  pub image : after ≡ image_at file k im
  pub laid : cs ≡ columns_at file k im

module _ (file : List ℕ) (k : ℕ) (im : Image) where
  pub due_does : (d : Result Kind Reason) → due_at file (76 * k) ≡ d → LayingEffect file k im (due_image file k im d) (due_columns file k im d)
  unfolding image_at columns_at
  due_does d e = record { image = rw e refl; laid = rw e refl }

  pub data_does : (h : Header) (s : List ℕ) (t : Bool) → due_at file (76 * k) ≡ Ok (Frame Data) → s ≡ sent_at file k → h ≡ header_of s → eqb h.count 0 ≡ t →
      LayingEffect file k im (cond t im (image_by im h s)) (cond t [] (frame_columns im h s))
  unfolding image_at columns_at
  data_does h s t e u v z = record { image = rw (← z, v, u, e) refl; laid = rw (← z, v, u, e) refl }

-- a record that lays nothing
pub nothing_laid : {file o : List ℕ} {k : ℕ} {im : Image} {at : ℕ} → LayingEffect file k im im [] → (im ≡ image_at file k im) × Laid at (columns_at file k im) o o
nothing_laid d = (d.image, laid_as d.laid (laid_none _))

-- ---- record by record, where there are n

over_at : (file : List ℕ) (n k : ℕ) (im : Image) → k < n → columns_over file (n - k) k im ≡ columns_at file k im ++ columns_over file (n - (k + 1)) (k + 1) (image_at file k im)
unfolding columns_over
over_at file n k im h = let e : n - k ≡ suc (n - (k + 1)) = omega arith in rw (e, add-one k) refl

over_length : (file : List ℕ) (n k : ℕ) (im : Image) → k < n → length (columns_over file (n - k) k im) ≡ length (columns_at file k im) + length (columns_over file (n - (k + 1)) (k + 1) (image_at file k im))
over_length file n k im h = ap length (over_at file n k im h) ∙ length-append (columns_at file k im) (columns_over file (n - (k + 1)) (k + 1) (image_at file k im))

-- before record k: what is laid from here on is laid from the start on
pub record Before (file : List ℕ) (n k : ℕ) (im : Image) (o₀ o : List ℕ) : Type 0 where
  pub within : k ≤ n
  pub bits : im.bits.0 ≤ 512 * k
  pub size : length o ≡ length o₀
  pub column : im.position.column < pels_per_line
  pub room : Room (columns_before im.position) (length (columns_over file (n - k) k im)) o
  pub on : (p : List ℕ) → Laid (columns_before im.position) (columns_over file (n - k) k im) o p → Laid 0 (columns_over file n 0 blank) o₀ p

pub before_first : {o : List ℕ} (file : List ℕ) (n : ℕ) → Room 0 (length (columns_over file n 0 blank)) o → Before file n 0 blank o o
before_first file n r = record { within = omega arith; bits = omega arith; size = refl; column = omega arith; room = rw (sub-zero n) r; on = λ p l. rw (sub-zero n) at l }

module _ {file : List ℕ} {n k : ℕ} {im : Image} {o₀ o : List ℕ} (b : Before file n k im o₀ o) where
  pub before_room : k < n → Room (columns_before im.position) (length (columns_at file k im)) o
  before_room h = room_fewer (length (columns_at file k im)) b.room (omega (arith, over_length file n k im h))

  pub before_next : {r : Image} {p : List ℕ} → k < n → r ≡ image_at file k im → Laid (columns_before im.position) (columns_at file k im) o p → length p ≡ length o → Before file n (k + 1) r o₀ p
  before_next {r} {p} h e l s =
      let g = record_grows file k im in
      rw e (record {
        within = omega arith;
        bits = omega (arith, g.bits, b.bits);
        size = s ∙ b.size;
        column = g.column b.column;
        room = room_more (columns_before (image_at file k im).position) _ b.room l g.columns (omega (arith, over_length file n k im h));
        on = λ q m. b.on q (laid_as (sym (over_at file n k im h)) (laid_more (columns_before (image_at file k im).position) g.columns l m));
      })

  pub before_end : k ≡ n → Laid 0 (columns_over file n 0 blank) o₀ o
  unfolding columns_over
  before_end h = b.on o (let e : n - k ≡ 0 = omega arith in rw e (laid_none o))

-- a page cleared for pairs of rows
pub cleared : {o : List ℕ} (lines : ℕ) → lines % 2 ≡ 0 → o ≡ bitmap_of_rows (replicate lines []) → o ≡ bitmap_of_rows (replicate (2 * (lines / 2)) [])
cleared lines h e = let z : 2 * (lines / 2) ≡ lines = omega arith in rw z e
