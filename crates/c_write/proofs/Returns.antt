-- What the C call that writes a page file returns, from what the call behind it promises. Assumes nothing.
use mathlib.Core.List.{List, [], ◌∷◌}
use mathlib.Core.Bool.{true, false}
use mathlib.Core.Path.{◌≡◌, refl}
use Prim.Native.Nat.{ℕ}
use Rattle.refusal.specs.declared.Reason.TheVariants.{RequestNotAllowed}
use Rattle.refusal.specs.declared.Refusal.{Refusal}
use Rattle.refusal.specs.Number.{number_of}
use Rattle.register.specs.declared.Check.{Check}
use Rattle.writer.specs.Call.{write_page}
use Rattle.c_refusal.specs.Returned.{refusal_code}
use Rattle.c_check.specs.Setting.{is_setting, check_setting_of}
use Rattle.c_write.specs.WritePage.{exported_writing}
use Rattle.std.specs.Prelude.{Result, Ok, Err}
use Rattle.refusal.specs.Reply.{reply_of}

module _ (bm : List ℕ) (settings rate : ℕ) (c o answer : List ℕ) where
  pub no_writing : {n : ℕ} → is_setting c ≡ false → n ≡ number_of RequestNotAllowed → (n, o, answer) ≡ exported_writing bm settings rate c o answer
  unfolding exported_writing
  no_writing h e = rw (h, e) refl

  module _ {k : Check} {r : Result ℕ Refusal} {p : List ℕ} (h : is_setting c ≡ true) (i : k ≡ check_setting_of c) (e : (reply_of r, p) ≡ write_page k settings rate bm o) where
    pub page_written : {n : ℕ} → r ≡ Ok n → (0, p, n ∷ []) ≡ exported_writing bm settings rate c o answer
    unfolding exported_writing
    page_written f = rw (h, ← i, ← e, f) refl

    pub write_refused : {f : Refusal} {n : ℕ} → r ≡ Err f → n ≡ refusal_code f → (n, p, answer) ≡ exported_writing bm settings rate c o answer
    unfolding exported_writing
    write_refused f g = rw (h, ← i, ← e, f, g) refl
