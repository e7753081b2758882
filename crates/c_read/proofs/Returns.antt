-- What the C call that reads a page file returns, from what the call behind it promises. Assumes nothing.
use mathlib.Core.List.{List}
use mathlib.Core.Bool.{true, false}
use mathlib.Core.Path.{◌≡◌, refl}
use Prim.Native.Nat.{ℕ}
use Rattle.refusal.specs.declared.Reason.TheVariants.{RequestNotAllowed}
use Rattle.refusal.specs.declared.Refusal.{Refusal}
use Rattle.refusal.specs.Number.{number_of}
use Rattle.register.specs.declared.Check.{Check}
use Rattle.reader_progress.specs.declared.Page.{Page}
use Rattle.reader.specs.Call.{read_page}
use Rattle.c_refusal.specs.Returned.{refusal_code}
use Rattle.c_check.specs.Setting.{is_setting, check_setting_of}
use Rattle.c_read.specs.ReadPage.{page_numbers, exported_page}
use Rattle.std.specs.Prelude.{Result, Ok, Err}
use Rattle.refusal.specs.Reply.{reply_of}

module _ (file c o answer : List ℕ) where
  pub no_reading_lem : {n : ℕ} → is_setting c ≡ false → n ≡ number_of RequestNotAllowed → (n, o, answer) ≡ exported_page file c o answer
  unfolding exported_page
  no_reading_lem h e = rw (h, e) refl

  module _ {k : Check} {r : Result Page Refusal} {p : List ℕ} (h : is_setting c ≡ true) (i : k ≡ check_setting_of c) (e : (reply_of r, p) ≡ read_page k file o) where
    pub page_read : {t : Page} {q : List ℕ} → r ≡ Ok t → q ≡ page_numbers t → (0, p, q) ≡ exported_page file c o answer
    unfolding exported_page
    page_read f g = rw (h, ← i, ← e, f, g) refl

    pub page_refused : {f : Refusal} {n : ℕ} → r ≡ Err f → n ≡ refusal_code f → (n, p, answer) ≡ exported_page file c o answer
    unfolding exported_page
    page_refused f g = rw (h, ← i, ← e, f, g) refl
