-- A record that was put together, where it stands in a file: it is due there, its octets turned back are the frame that was sent, and the
-- next record follows. Assumes nothing.
use mathlib.Core.Path.{◌≡◌, refl, sym, ◌∙◌}
use mathlib.Core.List.{List, [], ◌∷◌, ◌++◌}
use Prim.Native.Nat.{ℕ, suc, ◌*◌, ◌-◌}
use native.Mathlib.Omega.{arith}
use lib.ListN.{length, drop}
use Rattle.octets.specs.Bits.{Bit}
use Rattle.register.specs.declared.Check.{Check}
use Rattle.frame.specs.Layout.{sent_frame, stored_frame, end_record}
use Rattle.frame.proofs.RoundTrip.{stored_back}
use Rattle.frame.specs.declared.FrameKind.TheVariants.{SetUp, Data}
use Rattle.records.specs.declared.Kind.TheVariants.{Frame, End as EndDue}
use Rattle.records.specs.Records.{due_at, sent_at}
use Rattle.records.proofs.Order.{pair_end, pair_set_up, pair_data, whole_enough}
use Rattle.records.proofs.Within.{record_inside, record_pair, record_sent, record_rest}
use Rattle.writer_file.proofs.Sizes.{length_stored}
use Rattle.std.specs.Prelude.{Ok}

pub end_due : (file : List ℕ) (k : ℕ) (rest : List ℕ) → drop (76 * k) file ≡ end_record ++ rest → due_at file (76 * k) ≡ Ok EndDue
end_due file k rest e = sym (record_pair file k 2 58 [] rest e) ∙ sym (pair_end 2 58 (length file - 76 * k) refl refl)

-- record k is a frame with bits 0 to 572
module _ (c : Check) (file : List ℕ) (k : ℕ) (front : List Bit) (rest : List ℕ) where
  pub data_due : drop (76 * k) file ≡ 76 ∷ 57 ∷ (stored_frame c front ++ rest) → due_at file (76 * k) ≡ Ok (Frame Data)
  data_due e =
      let n = record_inside file k 76 57 (stored_frame c front) rest e in
      sym (record_pair file k 76 57 (stored_frame c front) rest e) ∙ sym (pair_data 76 57 (length file - 76 * k) refl refl) ∙ sym (whole_enough Data (length file - 76 * k) (omega (arith, length_stored c front)))

  pub set_up_due : drop (76 * k) file ≡ 76 ∷ 56 ∷ (stored_frame c front ++ rest) → due_at file (76 * k) ≡ Ok (Frame SetUp)
  set_up_due e =
      let n = record_inside file k 76 56 (stored_frame c front) rest e in
      sym (record_pair file k 76 56 (stored_frame c front) rest e) ∙ sym (pair_set_up 76 56 (length file - 76 * k) refl refl) ∙ sym (whole_enough SetUp (length file - 76 * k) (omega (arith, length_stored c front)))

  module _ (command : ℕ) (e : drop (76 * k) file ≡ 76 ∷ command ∷ (stored_frame c front ++ rest)) where
    pub sent_there : sent_at file k ≡ sent_frame c front
    sent_there = record_sent file k 76 command (stored_frame c front) rest e (length_stored c front) ∙ stored_back c front

    pub frame_rest : drop (76 * suc k) file ≡ rest
    frame_rest = record_rest file k 76 command (stored_frame c front) rest e (length_stored c front)
