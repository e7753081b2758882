-- Which record is due, by the octets that are there. Assumes nothing.
use mathlib.Core.Bool.{Bool, true, false, cond}
use mathlib.Core.Path.{◌≡◌, refl, sym, ap}
use mathlib.Core.List.{List}
use Prim.Native.Nat.{ℕ, ◌+◌, ◌-◌, ◌<◌, ◌≤◌}
use native.Mathlib.Omega.{arith}
use lib.Dec.{ltb, eqb}
use lib.ListN.{length, take, drop, get_or, length-drop}
use lib.Seq.{take_all}
use borrow.Author.Tests.{eq-eqb, ne_eqb, lt-ltb, le-ltb, ltb-false}
use Rattle.turning.specs.Turned.{turned_from}
use Rattle.basics.proofs.Apart.{differ}
use Rattle.refusal.specs.declared.Reason.TheVariants.{RecordIncomplete, RecordUnknown}
use Rattle.frame.specs.declared.FrameKind.{FrameKind}
use Rattle.frame.specs.declared.FrameKind.TheVariants.{SetUp, Data}
use Rattle.records.specs.declared.Kind.{Kind}
use Rattle.records.specs.declared.Kind.TheVariants.{Frame, End}
use Rattle.records.specs.Records.{whole, pair_of, due_at, frame_at}
use Rattle.std.specs.Prelude.{Ok, Err}

pub whole_short : (kind : FrameKind) (left : ℕ) → left < 76 → Err RecordIncomplete ≡ whole kind left
whole_short kind left h = rw (lt-ltb left 76 h) refl

pub whole_enough : (kind : FrameKind) (left : ℕ) → 76 ≤ left → Ok (Frame kind) ≡ whole kind left
whole_enough kind left h = rw (le-ltb left 76 h) refl

module _ (len command left : ℕ) where
  pub pair_end : len ≡ 2 → command ≡ 58 → Ok End ≡ pair_of len command left
  unfolding pair_of
  pair_end h k = rw (eq-eqb len 2 h, eq-eqb command 58 k) refl

  pub pair_not_end : len ≡ 2 → (command ≡ 58 → ⊥) → Err RecordUnknown ≡ pair_of len command left
  unfolding pair_of
  pair_not_end h k = rw (eq-eqb len 2 h, ne_eqb command 58 k) refl

  pub pair_length : (len ≡ 2 → ⊥) → (len ≡ 76 → ⊥) → Err RecordUnknown ≡ pair_of len command left
  unfolding pair_of
  pair_length h k = rw (ne_eqb len 2 h, ne_eqb len 76 k) refl

  pub pair_set_up : len ≡ 76 → command ≡ 56 → whole SetUp left ≡ pair_of len command left
  unfolding pair_of
  pair_set_up h k = rw (ne_eqb len 2 (λ e. omega arith), eq-eqb len 76 h, eq-eqb command 56 k) refl

  pub pair_data : len ≡ 76 → command ≡ 57 → whole Data left ≡ pair_of len command left
  unfolding pair_of
  pair_data h k = rw (ne_eqb len 2 (λ e. omega arith), eq-eqb len 76 h, ne_eqb command 56 (λ e. omega arith), eq-eqb command 57 k) refl

  pub pair_neither : len ≡ 76 → (command ≡ 56 → ⊥) → (command ≡ 57 → ⊥) → Err RecordUnknown ≡ pair_of len command left
  unfolding pair_of
  pair_neither h k l = rw (ne_eqb len 2 (λ e. omega arith), eq-eqb len 76 h, ne_eqb command 56 k, ne_eqb command 57 l) refl

-- the octets of a record
abbrev pub size_of : Kind → ℕ
size_of (Frame kind) = 76
size_of End = 2

whole_room : (x : FrameKind) (kind : Kind) (left : ℕ) → whole x left ≡ Ok kind → size_of kind ≤ left
whole_room x kind left e = go (ltb left 76) refl e
  where
    go : (t : Bool) → ltb left 76 ≡ t → cond t (Err RecordIncomplete) (Ok (Frame x)) ≡ Ok kind → size_of kind ≤ left
    go true f e = differ cc
    go false f e = let z : Frame x ≡ kind = cc in rw (sym z) (omega (arith, ltb-false left 76 f))

pair_room : (len command left : ℕ) (kind : Kind) → 2 ≤ left → pair_of len command left ≡ Ok kind → size_of kind ≤ left
unfolding pair_of
pair_room len command left kind h e = go (eqb len 2) (eqb command 58) (eqb len 76) (eqb command 56) (eqb command 57) e
  where
    go : (a b c d f : Bool) →
        cond a (cond b (Ok End) (Err RecordUnknown)) (cond c (cond d (whole SetUp left) (cond f (whole Data left) (Err RecordUnknown))) (Err RecordUnknown)) ≡ Ok kind → size_of kind ≤ left
    go true true c d f e = let z : End ≡ kind = cc in rw (sym z) h
    go true false c d f e = differ cc
    go false b true true f e = whole_room SetUp kind left e
    go false b true false true e = whole_room Data kind left e
    go false b true false false e = differ cc
    go false b false d f e = differ cc

-- a record's frame, from all octets behind its length and command
pub frame_all : (file : List ℕ) (at : ℕ) → turned_from (take (length file - (at + 2)) (drop (at + 2) file)) 0 74 ≡ frame_at file at
frame_all file at = ap (λ (x : List ℕ). turned_from x 0 74) (take_all (length file - (at + 2)) (drop (at + 2) file) (simp length-drop (omega arith)))

module _ (file : List ℕ) (at : ℕ) where
  pub due_missing : length file < at + 2 → Err RecordIncomplete ≡ due_at file at
  unfolding due_at
  due_missing h = rw (lt-ltb (length file) (at + 2) h) refl

  pub due_pair : at + 2 ≤ length file → pair_of (get_or file at 0) (get_or file (at + 1) 0) (length file - at) ≡ due_at file at
  unfolding due_at
  due_pair h = rw (le-ltb (length file) (at + 2) h) refl

  -- a record that is due is there, whole
  pub due_room : (kind : Kind) → due_at file at ≡ Ok kind → at + size_of kind ≤ length file
  unfolding due_at
  due_room kind e = go (ltb (length file) (at + 2)) refl e
    where
      go : (t : Bool) → ltb (length file) (at + 2) ≡ t → cond t (Err RecordIncomplete) (pair_of (get_or file at 0) (get_or file (at + 1) 0) (length file - at)) ≡ Ok kind → at + size_of kind ≤ length file
      go true f e = differ cc
      go false f e = let l = ltb-false (length file) (at + 2) f in
          let m = pair_room (get_or file at 0) (get_or file (at + 1) 0) (length file - at) kind (omega arith) e in omega arith
