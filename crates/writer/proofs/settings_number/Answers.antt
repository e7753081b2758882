-- `writer::settings_number` meets its contract. Assumes nothing.
use Rattle.std.proofs.Common.{◌≡◌, ℕ, Bool, true, false, refl}
use Rattle.std.specs.Int.{from_bool}
use Rattle.writer.specs.Call.{bit_number}
use Rattle.writer.proofs.settings_number.Goals as goal

bit : (b : Bool) {n : ℕ} → n ≡ from_bool b → n ≡ bit_number b
bit true e = e
bit false e = e

pub returns : goal.returns
returns c = rw (bit _ c.from-4.ensures, bit _ c.from-3.ensures, bit _ c.from-2.ensures, bit _ c.from.ensures) refl
