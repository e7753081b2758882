-- What the C calls on captures return, from what the calls behind them promise. Assumes nothing.
use mathlib.Core.Bool.{true, false}
use mathlib.Core.List.{List, [], ◌∷◌}
use mathlib.Core.Path.{◌≡◌, refl}
use Prim.Native.Nat.{ℕ}
use native.Mathlib.Omega.{arith}
use Rattle.refusal.specs.declared.Reason.{Reason}
use Rattle.refusal.specs.declared.Reason.TheVariants.{RequestNotAllowed}
use Rattle.refusal.specs.Number.{number_of}
use Rattle.register.specs.declared.Check.{Check}
use Rattle.c_refusal.specs.Returned.{code}
use Rattle.c_check.specs.Setting.{is_setting, check_setting_of}
use Rattle.capture.specs.Find.{find_frames}
use Rattle.capture.specs.Extract.{records_of_frames}
use Rattle.c_capture.specs.Captures.{exported_finding, exported_records}
use Rattle.std.specs.Prelude.{Result, Ok, Err}
use Rattle.refusal.specs.Reply.{reply_at_once}

-- what is returned of a refusal at record 0 is its number
at_record_0 : {n : ℕ} (reason : Reason) → n ≡ number_of reason → n ≡ code (number_of reason) 0 0
at_record_0 reason e = omega arith

-- ---- frames of a capture

module _ (s c o answer : List ℕ) where
  pub no_finding : {n : ℕ} → is_setting c ≡ false → n ≡ number_of RequestNotAllowed → (n, o, answer) ≡ exported_finding s c o answer
  unfolding exported_finding
  no_finding h e = rw (h, e) refl

  module _ {k : Check} {r : Result ℕ Reason} {p : List ℕ} (h : is_setting c ≡ true) (i : k ≡ check_setting_of c) (e : (reply_at_once r, p) ≡ find_frames k s o) where
    pub frames_found : {n : ℕ} → r ≡ Ok n → (0, p, n ∷ []) ≡ exported_finding s c o answer
    unfolding exported_finding
    frames_found f = rw (h, ← i, ← e, f) refl

    pub finding_refused : {reason : Reason} {n : ℕ} → r ≡ Err reason → n ≡ number_of reason → (n, p, answer) ≡ exported_finding s c o answer
    unfolding exported_finding
    finding_refused {reason} f g = rw (h, ← i, ← e, f, at_record_0 reason g) refl

-- ---- records of a capture

module _ (s list o answer : List ℕ) {r : Result ℕ Reason} {p : List ℕ} (e : (reply_at_once r, p) ≡ records_of_frames s list o) where
  pub records_written : {n : ℕ} → r ≡ Ok n → (0, p, n ∷ []) ≡ exported_records s list o answer
  unfolding exported_records
  records_written f = rw (← e, f) refl

  pub records_refused : {reason : Reason} {n : ℕ} → r ≡ Err reason → n ≡ number_of reason → (n, p, answer) ≡ exported_records s list o answer
  unfolding exported_records
  records_refused {reason} f g = rw (← e, f, at_record_0 reason g) refl
