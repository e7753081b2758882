-- What the functions that fill frames promise. Assumes nothing.
use Rattle.std.specs.Prelude.{◌≡◌, Bool, ◌||◌, List, [], ℕ, zero, suc, ◌+◌, ◌<◌, ◌≤◌, ltb, length, drop, replicate}
use Rattle.octets.specs.Bits.{packed}
use Rattle.state.specs.declared.Solid.TheVariants.{WW}
use Rattle.state.specs.declared.State.{State}
use Rattle.state.specs.declared.State.TheVariants.{Solid as solid}
use Rattle.diagram.specs.declared.Start.{Start}
use Rattle.diagram.specs.Diagram.{ValidLengths, Step}
use Rattle.units.specs.declared.Continuation.{Continuation}
use Rattle.units.specs.declared.Unit.{Unit as EncodedUnit}
use Rattle.units.specs.Units.{bits_of_steps, context_at, entered, stands}
use Rattle.units.specs.Found.{Page}
use Rattle.writer_fill.specs.declared.FrameStart.{FrameStart}
use Rattle.writer_fill.specs.declared.FrameProgress.{FrameProgress}
use Rattle.writer_fill.specs.declared.FilledFrame.{FilledFrame}
use Rattle.writer_fill.specs.declared.FilledFrame.TheVariants.{Full, Finished}
use Rattle.writer_fill.specs.Frames.{Filled, full, finished, fill, sevens}

-- what its header says; X is the index of the last column encoded before it
abbrev pub start_of : FrameStart → Start
start_of h = record { state = h.state; context = context_at h.before h.lengths }

-- before the first unit
abbrev pub unfilled : FrameStart → FrameProgress
unfilled h = record { bits = record { 0 = 0 }; columns = record { 0 = 0 }; due = entered h.state; lengths = h.lengths }

abbrev pub after_unit : FrameProgress → EncodedUnit → Continuation → FrameProgress
after_unit p u c = record { bits = record { 0 = p.bits.0 + u.bits.0 }; columns = record { 0 = p.columns.0 + u.columns.0 }; due = c.due; lengths = c.lengths }

-- it has more than 500 bits, or more columns than the rate allows
abbrev pub is_full_by : ℕ → FrameProgress → Bool
is_full_by most p = ltb 500 p.bits.0 || ltb most p.columns.0

abbrev pub first_start : FrameStart
first_start = record { before = 0; state = solid WW; lengths = sevens }

abbrev pub start_after : FrameStart → FrameProgress → FrameStart
start_after h p = record { before = h.before + p.columns.0; state = stands p.due; lengths = p.lengths }

-- the steps that the frame takes from the columns cs of a page
abbrev pub fill_from : ℕ → FrameStart → List State → Filled
fill_from most h cs = fill (suc (length (drop h.before cs))) most [] (entered h.state) (context_at h.before h.lengths) (drop h.before cs)

pub record Fillable (bm : List ℕ) (n : ℕ) (h : FrameStart) (os : List ℕ) : Type 0 where
  pub page : Page bm n
  pub within : h.before ≤ n
  pub valid : ValidLengths h.lengths
  pub empty : os ≡ replicate 64 0

-- where a frame that takes no more stands
abbrev pub progress_of : FilledFrame → FrameProgress
progress_of (Full p) = p
progress_of (Finished p) = p

-- how these steps fill a frame, of the columns cs of a page
abbrev pub filled_by : List Step → FrameStart → List State → FilledFrame → Filled
filled_by ss h cs (Full p) = full ss p.due (context_at (h.before + p.columns.0) p.lengths) (drop (h.before + p.columns.0) cs)
filled_by ss h cs (Finished p) = finished ss p.due p.lengths

-- a full frame has bits and columns
abbrev pub some_if_full : FilledFrame → Type 0
some_if_full (Full p) = (0 < p.bits.0) × (0 < p.columns.0)
some_if_full (Finished p) = Unit {0}

pub record Fills (most : ℕ) (h : FrameStart) (cs : List State) (f : FilledFrame) (os : List ℕ) : Type 0 where
  pub steps : List Step
  pub is : fill_from most h cs ≡ filled_by steps h cs f
  pub bits : length (bits_of_steps steps) ≡ (progress_of f).bits.0
  pub columns : length (Rattle.diagram.specs.Diagram.columns steps) ≡ (progress_of f).columns.0
  pub held : os ≡ packed 64 (bits_of_steps steps)
  pub few : (progress_of f).bits.0 ≤ 508
  pub none : (progress_of f).bits.0 ≡ 0 → steps ≡ []
  pub within : h.before + (progress_of f).columns.0 ≤ length cs
  pub some : some_if_full f
  pub valid : ValidLengths (progress_of f).lengths

abbrev pub one_if : ℕ → ℕ
one_if zero = 0
one_if (suc bits) = 1

abbrev pub if_bits : {A : Type 0} → ℕ → List A → List A
if_bits zero xs = []
if_bits (suc bits) xs = xs
