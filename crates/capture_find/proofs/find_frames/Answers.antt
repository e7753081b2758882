-- `capture_find::find_frames` meets its contract: setting and room are judged before anything is written. Assumes nothing.
use mathlib.Core.Path.{subst, ◌≡◌, refl, sym, ap, ap₂, ◌∙◌}
use mathlib.Core.Bool.{Bool, true, false, cond, ◌&&◌}
use mathlib.Core.List.{List}
use Prim.Native.Nat.{ℕ, ◌*◌, ◌/◌}
use lib.Dec.{leb}
use lib.ListN.{length}
use borrow.Author.Rules.{rules}
use native.Mathlib.Omega.{arith}
use borrow.Author.Tests.{leb-true, not-true, not-false}
use Rattle.basics.specs.Cursor.{Writes}
use Rattle.basics.specs.Placed.{at_front}
use Rattle.basics.proofs.Placed.{placed_front}
use Rattle.basics.proofs.Writing.{ended}
use Rattle.register.specs.declared.Check.{Check}
use Rattle.register.specs.declared.Checker.{Checker}
use Rattle.register.specs.Setting.{allowed_check}
use Rattle.register.proofs.Setting.{made_allowed}
use Rattle.refusal.specs.Reply.{gives, refuses, Outcome, delivered}
use Rattle.capture.specs.Frames.{frames_in}
use Rattle.capture.specs.Find.{list_of, tells_frames, find_frames}
use Rattle.capture.proofs.Found.{length_list}
use Rattle.capture_find.proofs.find_frames.Goals.{Else-not-suffices}
use Rattle.capture_find.proofs.find_frames.Goals as goal

-- a setting that is not allowed, or does not compare
not-told : (c : Check) (s o : List ℕ) → tells_frames c ≡ false → (refuses 20 0, o) ≡ find_frames c s o
unfolding find_frames
not-told c s o e = rw e refl

told : (c : Check) (s o : List ℕ) (b : Bool) {x : Outcome ℕ ℕ} → tells_frames c ≡ true → leb (2 * length (frames_in c s)) (length o) ≡ b →
    x ≡ cond b (gives (length (frames_in c s)), at_front (list_of (frames_in c s)) o) (refuses 16 0, o) → x ≡ find_frames c s o
unfolding find_frames delivered
told c s o b e f g = rw (e, ap (λ (n : ℕ). leb n (length o)) (length_list (frames_in c s)) ∙ f) g

by-setting : (c : Check) (a b : Bool) → allowed_check c ≡ a → c.compare ≡ b → tells_frames c ≡ (a && b)
unfolding tells_frames
by-setting c a b e f = ap₂ ◌&&◌ e f

and_false : (a : Bool) → (a && false) ≡ false
and_false true = refl
and_false false = refl

pub returns-then-not-check : goal.returns-then-not-check
returns-then-not-check c =
    not-told _ _ _ (by-setting c.args.check (allowed_check c.args.check) false refl (not-true _ c.if-not-check.true) ∙ and_false (allowed_check c.args.check))

pub returns-in_default : goal.returns-in_default
returns-in_default c = not-told _ _ _ (by-setting c.args.check false c.args.check.compare c.in_default.ensures refl)

-- the setting compares, and is allowed, since it has a checker
settled : (check : Check) (checker : Checker) → checker.setting ≡ check → check.compare ≡ true → tells_frames check ≡ true
settled check checker e f = by-setting check true true (made_allowed checker e) f

pub returns-then-not-suffices : goal.returns-then-not-suffices
returns-then-not-suffices c = told _ _ _ false (settled _ c.in-Some.checker c.in-Some.ensures (not-false _ c.if-not-check.false)) (rw c.in-Some.ensures at (sym c.suffices.ensures ∙ c.if-not-suffices.true)) refl

-- the list is long enough
enough : (c : Else-not-suffices) → leb (2 * length (frames_in c.in-Some.checker.setting c.args.octets.now)) (length c.args.list.now) ≡ true
enough c = sym c.suffices.ensures ∙ c.if-not-suffices.false

pub put_frames-requires : goal.put_frames-requires
put_frames-requires c = omega (arith, leb-true _ _ (enough (goal.at.put_frames-requires c).Else-not-suffices))

pub returns : goal.returns
returns c =
    let s : List ℕ = c.args.octets.now in
    let w : Writes (list_of (frames_in c.args.check s)) _ c.put_frames.new.list = rw c.in-Some.ensures at c.put_frames.ensures in
    let n : c.put_frames.new.list.at / 2 ≡ length (frames_in c.args.check s) = omega (arith, w.at, length_list (frames_in c.args.check s)) in
    told _ _ _ true (settled _ c.in-Some.checker c.in-Some.ensures (not-false _ c.if-not-check.false)) (subst (λ (x : Check). leb (2 * length (frames_in x c.args.octets.now)) (length c.args.list.now) ≡ true) c.in-Some.ensures (enough (goal.at.returns c).Else-not-suffices))
    (ap₂ {C = Outcome ℕ ℕ} (λ (n : ℕ) (xs : List ℕ). (gives n, xs)) n (ended w (search rules) ∙ placed_front _ _))
