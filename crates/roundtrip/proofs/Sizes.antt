-- Sizes. Every image frame has from 1 to 508 bits. A frame that is not the last is full, by its bits or by its columns; a page's bits are at most 4 for
-- each column and a constant. So a page of so many lines needs so many records, and a caller who lends so much room is never refused by 16. Assumes nothing.
use mathlib.Core.Path.{◌≡◌, ap}
use mathlib.Core.Bool.{Bool, true, false, cond, ◌&&◌}
use mathlib.Core.List.{List, [], ◌∷◌}
use Prim.Native.Nat.{ℕ, zero, suc, ◌+◌, ◌*◌, ◌/◌, ◌≤◌}
use native.Mathlib.Nat.{add-mul, le_trans, mul-le-mul_right, mul-div-le, le-div_iff_mul-le}
use native.Mathlib.Omega.{arith}
use lib.Dec.{eqb, ltb}
use lib.ListN.{length, length-append}
use Rattle.basics.proofs.Apart.{differ}
use Rattle.register.specs.declared.Check.{Check}
use Rattle.register.specs.Setting.{allowed_check}
use Rattle.state.specs.declared.State.{State}
use Rattle.diagram.specs.declared.Context.{Context}
use Rattle.diagram.specs.declared.Start.{Start}
use Rattle.diagram.specs.Diagram.{Place, Step, columns, ReadingFrom, ValidContext}
use Rattle.bitmap.specs.Form.{columns_of}
use Rattle.bitmap.proofs.Taken.{legal, length_columns_of}
use Rattle.units.specs.declared.StepDue.{StepDue}
use Rattle.units.specs.Units.{bits_of_steps, entered, stands}
use Rattle.writer_fill.specs.Frames.{Filled, full, finished, fill, Frame, frame_of, framed, frames_from, page_start, frames_of}
use Rattle.writer.specs.Call.{most_columns, request_allowed}
use Rattle.writer_file.proofs.Sizes.{length_file}
use Rattle.roundtrip.specs.Sizes.{bits_in, Every, none, and, Sized, FrameSizes, BitsMost, FramesMost, RoomEnough}
use Rattle.roundtrip.specs.Laws.{RoomSuffices}
use Rattle.roundtrip.proofs.Steps.{steps_bits}
use Rattle.roundtrip.proofs.Amortised.{potentials, potentials_most}
use Rattle.roundtrip.proofs.Filling.{Filling, Fills, Reached, many_bits, many_columns, reached, filling_pays, final_pays, full_columns, filled}
use Rattle.roundtrip.proofs.Chain.{some_steps, some_length, valid_page_start}
use Rattle.roundtrip.proofs.Demand2.{demand_2}

-- ---- one frame

sized : {a : Start} {q : Place} {cx : Context} {ss : List Step} → ReadingFrom a ss (bits_of_steps ss) q cx → ValidContext a.context → 1 ≤ length ss → length (bits_of_steps ss) ≤ 508 → Sized (frame_of a ss)
sized r v h few = record { some = omega (arith, steps_bits r v); few = few }

sized_from : (k most : ℕ) (a : Start) (cs : List State) → ValidContext a.context → Every Sized (frames_from k most a cs)
unfolding frames_from
sized_from zero most a cs v = none
sized_from (suc k) most a cs v = go (fill (suc (length cs)) most [] (entered a.state) a.context cs) (filled a cs most v) (sized_from k most)
  where
    go : (x : Filled) → Fills a most cs x → ((a : Start) (cs : List State) → ValidContext a.context → Every Sized (frames_from k most a cs)) →
        Every Sized (framed a x (λ b ds. frames_from k most b ds))
    go (finished [] d l) f ih = none
    go (finished (t ∷ ts) d l) f ih = and (sized f.reading v (omega arith) f.few) none
    go (full ss d cx ds) f ih =
        let x = some_length (some_steps ss (omega (arith, full_columns v most f.0 f.1))) in
        and (sized f.0.reading v x f.0.few) (ih (record { state = stands d; context = cx }) ds f.0.valid)

pub frame_sizes : FrameSizes
unfolding frames_of
frame_sizes most cs = sized_from (suc (length cs)) most page_start cs valid_page_start

-- ---- all frames

-- frames that tell n columns, where so much is in store: their bits, and how many are full by bits and how many by columns
record Few (most store n : ℕ) (fs : List Frame) : Type 0 where
  bits : bits_in fs ≤ 4 * n + (store + 3)
  by_bits : ℕ
  by_columns : ℕ
  frames : length fs ≤ by_bits + by_columns + 1
  long : 501 * by_bits ≤ 4 * n + store
  wide : by_columns * suc most ≤ n

-- the last one, or none
few_last : (most store n : ℕ) (fs : List Frame) → length fs ≤ 1 → bits_in fs ≤ 4 * n + (store + 3) → Few most store n fs
few_last most store n fs h b = record { bits = b; by_bits = 0; by_columns = 0; frames = omega arith; long = omega arith; wide = omega arith }

-- a full frame in front: x is 1 if it is full by bits, and y if by columns
few_more : {a : Start} {m : Context} {cs ds : List State} {ss : List Step} {d : StepDue} {most : ℕ} {fs : List Frame} (x y : ℕ) → ValidContext a.context → Filling a cs ss d m ds → Few most (potentials m.lengths) (length ds) fs →
    1 ≤ x + y → 501 * x ≤ length (bits_of_steps ss) → y * suc most ≤ length (columns ss) → Few most (potentials a.context.lengths) (length cs) (frame_of a ss ∷ fs)
unfolding bits_in
few_more {cs} {ds} {ss} {most} x y v f g one b c =
    let p = filling_pays v f in
    let e : length (columns ss) + length ds ≡ length cs = simp length-append at (ap length f.covers) in
    record {
      bits = omega (arith, g.bits);
      by_bits = x + g.by_bits;
      by_columns = y + g.by_columns;
      frames = omega (arith, g.frames);
      long = omega (arith, g.long);
      wide = rw (add-mul y g.by_columns (suc most)) (omega (arith, g.wide));
    }

few_from : (k most : ℕ) (a : Start) (cs : List State) → ValidContext a.context → Few most (potentials a.context.lengths) (length cs) (frames_from k most a cs)
unfolding frames_from bits_in
few_from zero most a cs v = few_last most (potentials a.context.lengths) (length cs) [] (omega arith) (omega arith)
few_from (suc k) most a cs v = go (fill (suc (length cs)) most [] (entered a.state) a.context cs) (filled a cs most v) (few_from k most)
  where
    next : {ss : List Step} {d : StepDue} {m : Context} {ds : List State} {fs : List Frame} → Filling a cs ss d m ds → Reached most ss → Few most (potentials m.lengths) (length ds) fs →
        Few most (potentials a.context.lengths) (length cs) (frame_of a ss ∷ fs)
    next f (many_bits h) g = few_more 1 0 v f g (omega arith) (omega arith) (omega arith)
    next f (many_columns h) g = few_more 0 1 v f g (omega arith) (omega arith) (omega arith)

    go : (x : Filled) → Fills a most cs x → ((a : Start) (cs : List State) → ValidContext a.context → Few most (potentials a.context.lengths) (length cs) (frames_from k most a cs)) →
        Few most (potentials a.context.lengths) (length cs) (framed a x (λ b ds. frames_from k most b ds))
    go (finished [] d l) f ih = few_last most (potentials a.context.lengths) (length cs) [] (omega arith) (omega arith)
    go (finished (t ∷ ts) d l) f ih = few_last most (potentials a.context.lengths) (length cs) (frame_of a (t ∷ ts) ∷ []) (omega arith) (omega (arith, final_pays v f, ap length f.covers))
    go (full ss d m ds) f ih = next f.0 (reached most ss f.1) (ih (record { state = stands d; context = m }) ds f.0.valid)

module _ (most : ℕ) (cs : List State) where
  few : Few most (potentials page_start.context.lengths) (length cs) (frames_of most cs)
  unfolding frames_of
  few = few_from (suc (length cs)) most page_start cs valid_page_start

  bits : bits_in (frames_of most cs) ≤ 4 * length cs + 23
  bits = omega (arith, few.bits, potentials_most page_start.context valid_page_start)

  frames : length (frames_of most cs) ≤ (4 * length cs + 20) / 501 + length cs / suc most + 1
  frames = omega (arith, few.frames, few.long, potentials_most page_start.context valid_page_start, (le-div_iff_mul-le {k = suc most} {x = few.by_columns} {y = length cs} (omega arith)).1 few.wide)

pub bits_most : BitsMost
bits_most most cs = bits most cs

pub frames_most : FramesMost
frames_most most cs = frames most cs

-- ---- the file

-- the least of the three rates' columns
most_least : (c : Check) (rate : ℕ) → request_allowed c rate ≡ true → 2400 ≤ most_columns rate
unfolding request_allowed most_columns
most_least c rate e = go (allowed_check c) c.compare (eqb rate 2400) (eqb rate 4800) (eqb rate 9600) e
  where
    go : (a b x y z : Bool) → (a && (b && ltb 0 (cond x 9600 (cond y 4800 (cond z 2400 0))))) ≡ true → 2400 ≤ cond x 9600 (cond y 4800 (cond z 2400 0))
    go a b true y z e = omega arith
    go a b false true z e = omega arith
    go a b false false true e = omega arith
    go true true false false false e = differ cc
    go true false false false false e = differ cc
    go false b false false false e = differ cc

pub room_enough : RoomEnough
room_enough c g rate bm a fine =
    let most : ℕ = most_columns rate in
    let n : ℕ = length (columns_of bm) in
    let s = length_columns_of bm (legal bm fine).lines.even in
    let f = frames_most most (columns_of bm) in
    let w : 2401 * (n / suc most) ≤ n = le_trans (mul-le-mul_right (n / suc most) (omega (arith, most_least c rate a))) (mul-div-le n (suc most)) in
    omega (arith, length_file c g most (columns_of bm))

-- Whoever lends that much is not refused by 16.
pub room_suffices : RoomSuffices
room_suffices c settings rate bm g w o h = (demand_2 c settings rate bm g w).writes o (omega (arith, room_enough c g rate bm w.request w.bitmap))
