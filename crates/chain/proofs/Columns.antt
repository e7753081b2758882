-- The columns that an image frame lays: none where it is refused; else those of its reading, and before them the column that was left open,
-- in the state that its header says. Assumes nothing.
use mathlib.Core.Path.{◌≡◌, refl}
use mathlib.Core.List.{List, [], ◌∷◌}
use Prim.Native.Nat.{ℕ}
use lib.ListN.{length}
use Rattle.refusal.specs.declared.Fault.{Fault}
use Rattle.state.specs.declared.State.{State}
use Rattle.frame.specs.declared.Header.{Header}
use Rattle.diagram.specs.declared.End.{End}
use Rattle.diagram.specs.declared.End.TheVariants.{At, Closed, Open}
use Rattle.diagram.specs.declared.Context.{Context}
use Rattle.diagram.specs.Diagram.{Step, columns}
use Rattle.diagram.specs.Decoder.{Stop as Stopping, read}
use Rattle.chain.specs.declared.Image.{Image}
use Rattle.chain.specs.declared.NextImage.{NextImage}
use Rattle.chain.specs.Chain.{open_in, opening, reading_of, chained, frame_columns}
use Rattle.std.specs.Prelude.{Ok, Err}

pub length_opening : (e : End) (t : State) → length (opening e t) ≡ open_in e
length_opening (At s) t = refl
length_opening (Closed s) t = refl
length_opening Open t = refl

module _ (im : Image) (h : Header) (s : List ℕ) where
  pub columns_refused : {f : Fault} → chained im h s ≡ Err f → frame_columns im h s ≡ []
  unfolding frame_columns
  columns_refused e = rw e refl

  module _ {g : NextImage} {ss : List Step} {e : Stopping} {d : Context} (c : chained im h s ≡ Ok g) (r : reading_of im h s ≡ read ss e d) where
    pub columns_behind_open : im.end ≡ Open → frame_columns im h s ≡ h.state ∷ columns ss
    unfolding frame_columns
    columns_behind_open o = rw (c, r, o) refl

    pub columns_behind_state : {t : State} → im.end ≡ At t → frame_columns im h s ≡ columns ss
    unfolding frame_columns
    columns_behind_state o = rw (c, r, o) refl
