-- What is judged before a page is written: its bitmap has all its columns, and whether the last one can be encoded is seen at the last two.
-- Assumes nothing.
use mathlib.Core.Bool.{Bool, true, false, cond, ◌&&◌}
use mathlib.Core.Path.{◌≡◌, refl, sym, ap, ap₂, ◌∙◌}
use mathlib.Core.List.{List, ◌++◌}
use Prim.Native.Nat.{ℕ, ◌+◌, ◌-◌, ◌*◌, ◌<◌, ◌≤◌}
use native.Mathlib.Omega.{arith}
use lib.ListN.{length, get_or, drop}
use Rattle.basics.proofs.Apart.{differ}
use Rattle.refusal.specs.declared.Reason.{Reason}
use Rattle.refusal.specs.declared.Reason.TheVariants.{SettingsNotAllowed, LastColumnNotEncodable, RequestNotAllowed}
use Rattle.refusal.specs.Number.{number_of}
use Rattle.refusal.specs.Reply.{Reply, gives, refuses, SmallPlace, valid}
use Rattle.refusal.proofs.Replies.{with_room, no_room, delivered_place}
use Rattle.diagram.specs.Diagram.{move, enters_mixed}
use Rattle.register.specs.declared.Check.{Check}
use Rattle.register.specs.Setting.{allowed_check}
use Rattle.state.specs.declared.Solid.TheVariants.{WW}
use Rattle.state.specs.declared.State.{State}
use Rattle.state.specs.declared.State.TheVariants.{Solid as solid}
use Rattle.state.specs.Pels.{pels_of, state_of}
use Rattle.state.proofs.States.{state_pels}
use Rattle.settings.specs.declared.Settings.{Settings}
use Rattle.settings.specs.Settings.{settings_of}
use Rattle.bitmap.specs.Form.{lines_of, columns_of}
use Rattle.bitmap.specs.Validity.{bitmap_validity}
use Rattle.bitmap.proofs.Pels.{most_small}
use Rattle.bitmap.specs.Laws.{Legal}
use Rattle.bitmap.proofs.Taken.{legal}
use Rattle.units.specs.Found.{Page}
use Rattle.units.proofs.Ahead.{page_columns}
use Rattle.writer_fill.specs.Frames.{frames_of}
use Rattle.writer_file.specs.File.{file_of}
use Rattle.writer.specs.declared.judging.Writing.{Writing}
use Rattle.writer.specs.Call.{most_columns, columns_at, request_allowed, requested, not_encodable, fit, judge_page_within, judge_page, with_columns, if_fit, write_page_within, write_page}
use Rattle.writer_file.proofs.Sizes.{length_file}
use Rattle.std.specs.Prelude.{Option, Some, None, Result, Ok, Err}

-- ---- a bitmap that may be taken

pub page_of_lem : (bm : List ℕ) → bitmap_validity bm ≡ valid → Page bm (863 * lines_of bm)
page_of_lem bm e = let l : Legal bm = legal bm e in record { size = l.size; even = l.lines.even; few = omega (arith, l.lines.few, most_small); count = refl }

pub page_some : (bm : List ℕ) → bitmap_validity bm ≡ valid → 2 ≤ lines_of bm
page_some bm e = let l : Legal bm = legal bm e in omega (arith, l.lines.some, l.lines.even)

-- ---- the last column

pub last_two : {bm : List ℕ} {n p q : ℕ} {a b : State} → Page bm n → 2 ≤ n → p ≡ pels_of (get_or (columns_of bm) (n - 2) (solid WW)) → q ≡ pels_of (get_or (columns_of bm) (n - 1) (solid WW)) →
    a ≡ state_of p → b ≡ state_of q → enters_mixed (move a b) ≡ not_encodable (columns_of bm)
unfolding not_encodable
last_two {bm} {n} {p} {q} {a} {b} g h e f x y =
    let c = page_columns g in
    let u : a ≡ get_or (columns_of bm) (length (columns_of bm) - 2) (solid WW) = x ∙ ap state_of e ∙ state_pels (get_or (columns_of bm) (n - 2) (solid WW)) ∙ ap (λ (k : ℕ). get_or (columns_of bm) (k - 2) (solid WW)) (sym c) in
    let v : b ≡ get_or (columns_of bm) (length (columns_of bm) - 1) (solid WW) = y ∙ ap state_of f ∙ state_pels (get_or (columns_of bm) (n - 1) (solid WW)) ∙ ap (λ (k : ℕ). get_or (columns_of bm) (k - 1) (solid WW)) (sym c) in
    ap₂ (λ (s t : State). enters_mixed (move s t)) u v

-- ---- the request

-- the most columns at an allowed rate are those of the request, where the check setting is allowed and compares
pub request_columns : (c : Check) (rate : ℕ) → allowed_check c ≡ true → c.compare ≡ true → columns_at rate ≡ requested c rate
unfolding columns_at requested request_allowed
request_columns c rate a b = rw (a, b) refl

pub request_wrong : (c : Check) (rate : ℕ) → allowed_check c ≡ false → None ≡ requested c rate
unfolding requested request_allowed
request_wrong c rate a = rw a refl

pub request_uncompared : (c : Check) (rate : ℕ) → allowed_check c ≡ true → c.compare ≡ false → None ≡ requested c rate
unfolding requested request_allowed
request_uncompared c rate a b = rw (a, b) refl

pub not_requested : (c : Check) (rate : ℕ) → requested c rate ≡ None → request_allowed c rate ≡ false
unfolding requested
not_requested c rate e = go (request_allowed c rate) e
  where
    go : (t : Bool) → cond t (Some (most_columns rate)) None ≡ None → t ≡ false
    go true e = differ cc
    go false e = refl

pub is_requested : (c : Check) (rate : ℕ) {n : ℕ} → requested c rate ≡ Some n → (request_allowed c rate ≡ true) × (n ≡ most_columns rate)
unfolding requested
is_requested c rate {n} e = go (request_allowed c rate) e
  where
    go : (t : Bool) → cond t (Some (most_columns rate)) None ≡ Some n → (t ≡ true) × (n ≡ most_columns rate)
    go true e = (refl, cc)
    go false e = differ cc

-- ---- in the list's order

module _ (c : Check) (settings rate : ℕ) (bm : List ℕ) where
  pub not_asked : request_allowed c rate ≡ false → Err RequestNotAllowed ≡ judge_page c settings rate bm
  unfolding judge_page_within
  not_asked e = rw e refl

  module _ (e : request_allowed c rate ≡ true) where
    pub not_taken : {reason : Reason} → bitmap_validity bm ≡ Err reason → Err reason ≡ judge_page c settings rate bm
    unfolding judge_page_within
    not_taken f = rw (e, f) refl

    module _ (f : bitmap_validity bm ≡ valid) where
      pub not_settings : settings_of settings ≡ None → Err SettingsNotAllowed ≡ judge_page c settings rate bm
      unfolding judge_page_within
      not_settings g = rw (e, f, g) refl

      pub not_told : {g : Settings} → settings_of settings ≡ Some g → not_encodable (columns_of bm) ≡ true → Err LastColumnNotEncodable ≡ judge_page c settings rate bm
      unfolding judge_page_within
      not_told g u = rw (e, f, g, u) refl

      pub all_fine : {g : Settings} → settings_of settings ≡ Some g → not_encodable (columns_of bm) ≡ false → Ok g ≡ judge_page c settings rate bm
      unfolding judge_page_within
      all_fine g u = rw (e, f, g, u) refl

-- ---- what a page that is fit is

pub record Fits (c : Check) (settings rate : ℕ) (bm : List ℕ) (g : Settings) : Type 0 where
  pub request : request_allowed c rate ≡ true
  pub fine : bitmap_validity bm ≡ valid
  pub settings_are : settings_of settings ≡ Some g
  pub last : not_encodable (columns_of bm) ≡ false

pub fits : (c : Check) (settings rate : ℕ) (bm : List ℕ) (g : Settings) → judge_page c settings rate bm ≡ Ok g → Fits c settings rate bm g
unfolding judge_page_within
fits c settings rate bm g e = go (request_allowed c rate) (bitmap_validity bm) (settings_of settings) (not_encodable (columns_of bm)) refl refl refl refl e
  where
    go : (a : Bool) (b : Result Unit Reason) (s : Option Settings) (t : Bool) → request_allowed c rate ≡ a → bitmap_validity bm ≡ b → settings_of settings ≡ s → not_encodable (columns_of bm) ≡ t →
        cond a (fit b s t) (Err RequestNotAllowed) ≡ Ok g → Fits c settings rate bm g
    go false b s t w x y z e = differ cc
    go true (Err reason) s t w x y z e = differ cc
    go true (Ok _) None t w x y z e = differ cc
    go true (Ok _) (Some h) true w x y z e = differ cc
    go true (Ok _) (Some h) false w x y z e = let q : h ≡ g = cc in record { request = w; fine = x; settings_are = y ∙ ap Some q; last = z }

pub written_by : (rate : ℕ) (j : Result Settings Reason) {w : Writing} → with_columns rate j ≡ Ok w → (j ≡ Ok w.settings) × (w.most ≡ most_columns rate)
written_by rate (Err reason) e = differ cc
written_by rate (Ok g) {w} e = let q : record { settings = g; most = most_columns rate } ≡ w = cc in (ap (λ (x : Writing). Ok x.settings) q, sym (ap (λ (x : Writing). x.most) q))

pub not_written : (rate : ℕ) (j : Result Settings Reason) {reason : Reason} → with_columns rate j ≡ Err reason → j ≡ Err reason
not_written rate (Err reason) e = cc
not_written rate (Ok g) e = differ cc

-- a request that is allowed has an allowed check setting
pub request_check : (c : Check) (rate : ℕ) → request_allowed c rate ≡ true → allowed_check c ≡ true
unfolding request_allowed
request_check c rate e = go (allowed_check c) _ e
  where
    go : (a b : Bool) → a && b ≡ true → a ≡ true
    go true b e = refl
    go false b e = e

-- ---- the reply and the output

module _ (c : Check) (settings rate : ℕ) (bm o : List ℕ) where
  pub refused_first : {reason : Reason} {x : Reply ℕ} → judge_page c settings rate bm ≡ Err reason → x ≡ refuses (number_of reason) 0 → (x, o) ≡ write_page c settings rate bm o
  unfolding write_page_within
  refused_first e f = rw (e, f) refl

  module _ {g : Settings} (e : judge_page c settings rate bm ≡ Ok g) (n : ℕ) (s : n ≡ 76 * (2 + length (frames_of (most_columns rate) (columns_of bm))) + 2) where
    size : length (file_of c g (most_columns rate) (columns_of bm)) ≡ n
    size = length_file c g (most_columns rate) (columns_of bm) ∙ sym s

    pub too_short : {x : Reply ℕ} → length o < n → x ≡ refuses 16 0 → (x, o) ≡ write_page c settings rate bm o
    unfolding write_page_within
    too_short h f = rw (e, f) (no_room _ 0 (file_of c g (most_columns rate) (columns_of bm)) o (rw size h))

    pub file_written : {p : List ℕ} → n ≤ length o → p ≡ file_of c g (most_columns rate) (columns_of bm) → (gives n, p ++ drop n o) ≡ write_page c settings rate bm o
    unfolding write_page_within
    file_written h f =
        rw (e, f) (ap (λ (m : ℕ). (gives m, file_of c g (most_columns rate) (columns_of bm) ++ drop m o)) (sym size) ∙ with_room _ 0 (file_of c g (most_columns rate) (columns_of bm)) o (rw size h))

-- every refusal falls at record 0
pub written_place : (c : Check) (settings rate : ℕ) (bm o : List ℕ) → SmallPlace (write_page c settings rate bm o).0
unfolding write_page_within
written_place c settings rate bm o = go (judge_page c settings rate bm)
  where
    go : (j : Result Settings Reason) → SmallPlace (if_fit j c (most_columns rate) (columns_of bm) o).0
    go (Err reason) = (omega arith, omega arith)
    go (Ok g) = delivered_place _ 0 (file_of c g (most_columns rate) (columns_of bm)) o (omega arith)
