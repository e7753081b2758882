-- Refusal 19 is exact: no file says a page whose last column is mixed while the one before it is solid. A move from a solid state into a mixed one
-- that ends a frame leaves its column open, not laid; the next image frame lays it, and has a step, a move out of it. Assumes nothing.
use mathlib.Core.Path.{◌≡◌, refl, sym, ap, ◌∙◌}
use mathlib.Core.Bool.{Bool, true, false, cond, ◌&&◌}
use mathlib.Core.List.{List, [], ◌∷◌, ◌++◌, append_assoc}
use Prim.Native.Nat.{ℕ, zero, suc, ◌≤◌}
use native.Mathlib.Omega.{arith}
use lib.ListN.{length, replicate, take}
use borrow.Author.Tests.{ne_eqb}
use Rattle.octets.specs.Bits.{Bit, value, bits_from}
use Rattle.octets.proofs.Fields.{length_bits}
use Rattle.basics.proofs.Apart.{differ}
use Rattle.refusal.specs.declared.Reason.TheVariants.{HeaderDisagrees, FrameAfterClosingWord}
use Rattle.register.specs.declared.Check.{Check}
use Rattle.register.specs.Setting.{allowed_check}
use Rattle.state.specs.declared.Mixed.{Mixed}
use Rattle.state.specs.declared.Mixed.TheVariants.{BW}
use Rattle.state.specs.declared.Solid.{Solid}
use Rattle.state.specs.declared.Solid.TheVariants.{WW}
use Rattle.state.specs.declared.State.{State}
use Rattle.state.specs.declared.State.TheVariants.{Solid as solid, Mixed as mixed}
use Rattle.frame.specs.declared.Header.{Header}
use Rattle.frame.specs.declared.Record.{Record as FrameRecord}
use Rattle.frame.specs.Layout.{header_of}
use Rattle.diagram.specs.declared.End.{End}
use Rattle.diagram.specs.declared.End.TheVariants.{At, Closed, Open}
use Rattle.diagram.specs.declared.Context.{Context}
use Rattle.diagram.specs.declared.Start.{Start}
use Rattle.diagram.specs.Diagram.{Place, at, run, out, enter, Step, move, lays, columns, enters_mixed, last_enters_mixed, end_at, reading_end, moves, leaves, goes_on, closes, Reading, ReadingFrom, done, then, ValidContext, counted}
use Rattle.diagram.specs.Decoder.{Stop, stopped, opened, Answer, refused, read, decode, end_of}
use Rattle.diagram.proofs.Sound.{Good}
use Rattle.diagram.proofs.Demand.{sound, answers}
use Rattle.diagram.specs.Demand3.{Has}
use Rattle.part.specs.Call.{sizes_validity}
use Rattle.reader_progress.specs.declared.Page.{Page}
use Rattle.chain.specs.declared.Image.{Image}
use Rattle.chain.specs.declared.NextImage.{NextImage}
use Rattle.reader_progress.specs.declared.FileProgress.{FileProgress}
use Rattle.reader_progress.specs.declared.RecordEffect.{RecordEffect}
use Rattle.reader_progress.specs.declared.RecordEffect.TheVariants.{On, Page as Ends}
use Rattle.records.specs.Records.{sent_at}
use Rattle.chain.specs.Chain.{states_agree, agrees, is_closed, sizes_of, linked, frame_judged, start_of, reading_of, image_after, chained_if, chained, opening, columns_in, columns_if, frame_columns}
use Rattle.reader_progress.specs.Progress.{first_progress}
use Rattle.reader_record.specs.Record.{next, columns_at}
use Rattle.reader_judge.specs.File.{FileReading, refused as unread, page, laying, after_record, reading_from_within, file_reading_from, reading_by_within, most_octets, file_reading_within}
use Rattle.reader_record.specs.LayingPass.{image_in}
use Rattle.chain.proofs.Linked.{fine_start}
use Rattle.reader_record.proofs.Judges.{RecordAccepted, set_up, no_bits, frame, went}
use Rattle.writer.specs.Call.{not_encodable}
use Rattle.reader_judge.proofs.Files.{paged}
use Rattle.roundtrip.specs.Laws.{NoneEncodes}
use Rattle.roundtrip.proofs.LastColumn.{not_encodable_after, from_left}
use Rattle.roundtrip.proofs.Steps.{turned, turned_last, steps_bits}
use Rattle.roundtrip.proofs.Readings.{same_state, run_passed}
use Rattle.roundtrip.proofs.Chain.{is_open}
use Rattle.std.specs.Prelude.{Result, Ok, Err}
use Rattle.refusal.specs.declared.Fault.{Fault}
use Rattle.refusal.specs.declared.Reason.{Reason}
use Rattle.refusal.specs.Reply.{valid}

-- ---- a reading

-- whether the last column cannot be encoded, where a reading stands at a place; only a mixed column can be, and `b` says whether this one is
abbrev not_encodable_at : Bool → Place → List State → Bool
not_encodable_at b (at m) cs = not_encodable_after b (mixed m) cs
not_encodable_at b (run k s) cs = not_encodable_after false (solid s) cs
not_encodable_at b (out s) cs = not_encodable_after false (solid s) cs

after_move_lem : (a c : State) (cs : List State) → not_encodable_after (enters_mixed (move a c)) c cs ≡ not_encodable_at (enters_mixed (move a c)) (enter c) cs
after_move_lem (solid s) (solid t) cs = refl
after_move_lem (solid s) (mixed m) cs = refl
after_move_lem (mixed m) (solid t) cs = refl
after_move_lem (mixed m) (mixed n) cs = refl

after_word : (a : ℕ) (s : Solid) (cs : List State) → not_encodable_after false (solid s) (replicate a (solid s) ++ cs) ≡ not_encodable_after false (solid s) cs
after_word zero s cs = refl
after_word (suc a) s cs = run_passed (suc a) s false cs (omega arith)

after_steps : {p q : Place} {cx m : Context} {ss : List Step} {bs : List Bit} → Reading p cx ss bs q m → (b : Bool) (cs : List State) →
    not_encodable_at b p (columns ss ++ cs) ≡ not_encodable_at (turned b ss) q cs
unfolding columns lays not_encodable_after
after_steps done b cs = refl
after_steps (then {ss = ss} (moves {m = m} {t = t} a) r) b cs = after_move_lem (mixed m) t (columns ss ++ cs) ∙ after_steps r (enters_mixed (move (mixed m) t)) cs
after_steps (then {ss = ss} (leaves {s = s} {t = t} a) r) b cs = after_move_lem (solid s) t (columns ss ++ cs) ∙ after_steps r (enters_mixed (move (solid s) t)) cs
after_steps (then {ss = ss} (goes_on {s = s} {w = w} e t) r) b cs =
    rw (append_assoc (replicate (value w) (solid s)) (columns ss) cs) (after_word (value w) s (columns ss ++ cs) ∙ after_steps r false cs)
after_steps (then {ss = ss} (closes {s = s} {w = w} e t) r) b cs =
    rw (append_assoc (replicate (value w) (solid s)) (columns ss) cs) (after_word (value w) s (columns ss ++ cs) ∙ after_steps r false cs)

-- ---- a data part

-- the state of the last column that is laid; before an open one it is solid, and either will do
abbrev before : End → State
before (At s) = s
before (Closed s) = solid s
before Open = solid WW

either_solid : (s t : Solid) (cs : List State) → not_encodable_after false (solid s) cs ≡ not_encodable_after false (solid t) cs
unfolding not_encodable_after
either_solid s t [] = refl
either_solid s t (solid u ∷ cs) = refl
either_solid s t (mixed m ∷ cs) = refl

-- the reading before a last step
front : {p q : Place} {cx m : Context} {bs : List Bit} (ss : List Step) (s : Solid) (k : Mixed) → Reading p cx (ss ++ move (solid s) (mixed k) ∷ []) bs q m →
    (ws : List Bit) × (dx : Context) × Reading p cx ss ws (out s) dx
front {cx} [] s k (then (leaves a) done) = ([], cx, done)
front (x ∷ ss) s k (then {w = w} h r) = let f = front ss s k r in (w ++ f.0, f.1, then h f.2)

-- a reading that is not open does not end on a single 1 out of a solid state
not_turned : (q : Place) (ss : List Step) → end_at q ≡ reading_end q ss → last_enters_mixed ss ≡ false
unfolding reading_end
not_turned q ss e = go (last_enters_mixed ss) q e
  where
    go : (t : Bool) (q : Place) → end_at q ≡ cond t Open (end_at q) → t ≡ false
    go false q e = refl
    go true (at m) e = differ cc
    go true (run k s) e = differ cc
    go true (out s) e = differ cc

after_part : (a : Start) (bs : List Bit) → ValidContext a.context → 1 ≤ length bs → (ss : List Step) (e : Stop) (m : Context) → decode a bs ≡ read ss e m → (b : Bool) (cs : List State) →
    not_encodable_at b (enter a.state) (columns ss ++ cs) ≡ not_encodable_after false (before (end_of e)) cs
after_part a bs v h ss (opened s) m d b cs =
    let r : Good (enter a.state) a.context bs (read ss (opened s) m) = rw d at (sound a bs v) in
    after_steps (front ss s BW (r BW)).2 b cs ∙ either_solid s WW cs
after_part a bs v h ss (stopped q) m d b cs =
    let r : ReadingFrom a ss bs q m = rw d at (sound a bs v) in
    let e : Has (read ss (stopped q) m) (counted ss) (reading_end q ss) m.lengths = rw d at (answers a bs v r) in
    after_steps r b cs ∙ ap (λ (t : Bool). not_encodable_at t q cs) (shut ss (omega (arith, steps_bits r v)) (not_turned q ss e.1)) ∙ at_place q
  where
    shut : (ss : List Step) → 1 ≤ length ss → last_enters_mixed ss ≡ false → turned b ss ≡ false
    shut [] n t = absurd (omega arith)
    shut (s ∷ ss) n t = turned_last b s ss ∙ t

    at_place : (q : Place) → not_encodable_at false q cs ≡ not_encodable_after false (before (end_at q)) cs
    at_place (at k) = refl
    at_place (run k s) = refl
    at_place (out s) = refl

-- ---- an image frame

-- what is before it, and its header's state
after_header : (e : End) (a : State) (cs : List State) → states_agree e a ≡ true → not_encodable_after false (before e) (opening e a ++ cs) ≡ not_encodable_at (is_open e) (enter a) cs
unfolding not_encodable_after
after_header (At s) (solid t) cs h = ap (λ (c : State). not_encodable_after false c cs) (same_state s (solid t) h)
after_header (At s) (mixed m) cs h = ap (λ (c : State). not_encodable_after false c cs) (same_state s (mixed m) h)
after_header (Closed s) a cs h = differ cc
after_header Open (solid s) cs h = differ cc
after_header Open (mixed m) cs h = refl

agreed : (im : Image) (h : Header) (s : List ℕ) → frame_judged im h s ≡ valid → states_agree im.end h.state ≡ true
unfolding frame_judged agrees
agreed im h s e = by (sizes_validity s h.count (sizes_of h)) e
  where
    fine : (c t u : Bool) → cond c (Err FrameAfterClosingWord) (cond (t && u) valid (Err HeaderDisagrees)) ≡ valid → t ≡ true
    fine true t u e = differ cc
    fine false true u e = refl
    fine false false u e = differ cc

    by : (j : Result Unit Reason) → linked j im h ≡ valid → states_agree im.end h.state ≡ true
    by (Err reason) e = differ cc
    by (Ok _) e = fine (is_closed im.end) (states_agree im.end h.state) _ e

after_frame : (im : Image) (h : Header) (s : List ℕ) (g : NextImage) → (h.count ≡ 0 → ⊥) → chained im h s ≡ Ok g → (cs : List State) →
    not_encodable_after false (before im.end) (frame_columns im h s ++ cs) ≡ not_encodable_after false (before g.image.end) cs
unfolding chained frame_columns reading_of
after_frame im h s g z e cs = by (frame_judged im h s) (reading_of im h s) refl refl e
  where
    by : (j : Result Unit Reason) (a : Answer) → frame_judged im h s ≡ j → reading_of im h s ≡ a → chained_if j (image_after im h.count a) ≡ Ok g →
        not_encodable_after false (before im.end) (columns_if (chained_if j (image_after im h.count a)) (opening im.end h.state ++ columns_in a) ++ cs) ≡ not_encodable_after false (before g.image.end) cs
    by (Err reason) a f d e = differ cc
    by (Ok _) (refused n) f d e = differ cc
    by (Ok _) (read ss x cx) f d e =
        let n = length_bits s 61 h.count in
        ap (not_encodable_after false (before im.end)) (append_assoc (opening im.end h.state) (columns ss) cs)
        ∙ after_header im.end h.state (columns ss ++ cs) (agreed im h s f)
        ∙ after_part (start_of im h) (bits_from s 61 h.count) (fine_start im h s f) (omega arith) ss x cx d (is_open im.end) cs
        ∙ ap (λ (c : Result NextImage Fault). not_encodable_after false (before (image_in im c).end) cs) e

-- ---- a file

after_record_lem : {file : List ℕ} {k : ℕ} {p q : FileProgress} {x : FrameRecord} → RecordAccepted file k p x q → (cs : List State) →
    not_encodable_after false (before p.image.end) (columns_at file k p.image ++ cs) ≡ not_encodable_after false (before q.image.end) cs
unfolding columns_at
after_record_lem (set_up d g) cs = rw d refl
after_record_lem (no_bits d z) cs = rw (d, z) refl
after_record_lem {file} {k} {p} (frame d z g y) cs = rw (d, ne_eqb (header_of (sent_at file k)).count 0 z) (after_frame p.image (header_of (sent_at file k)) (sent_at file k) g z y cs)

from_record : (r : Check) (file : List ℕ) (n k : ℕ) (p : FileProgress) (t : Page) (cs : List State) → file_reading_from r file n k p ≡ page t cs → not_encodable_after false (before p.image.end) cs ≡ false
unfolding reading_from_within not_encodable_after
from_record r file zero k p t cs e = differ cc
from_record r file (suc n) k p t cs e = by (from_record r file n (suc k)) (next r file k p) refl e
  where
    on : {x : FrameRecord} (q : FileProgress) (s : FileReading) → laying (columns_at file k p.image) s ≡ page t cs → ((ds : List State) → s ≡ page t ds → not_encodable_after false (before q.image.end) ds ≡ false) →
        RecordAccepted file k p x q → not_encodable_after false (before p.image.end) cs ≡ false
    on q (unread j i b) e ih w = differ cc
    on q (page u ds) e ih w =
        let a : u ≡ t = cc in let b : columns_at file k p.image ++ ds ≡ cs = cc in
        rw (sym b) (after_record_lem w ds ∙ ih ds (ap (λ (x : Page). page x ds) a))

    by : ((q : FileProgress) (t : Page) (ds : List State) → file_reading_from r file n (suc k) q ≡ page t ds → not_encodable_after false (before q.image.end) ds ≡ false) →
        (x : Result RecordEffect Fault) → next r file k p ≡ x → after_record x k (columns_at file k p.image) (λ q. file_reading_from r file n (suc k) q) ≡ page t cs → not_encodable_after false (before p.image.end) cs ≡ false
    by ih (Err reason) f e = differ cc
    by ih (Ok (Ends u)) f e = let b : [] ≡ cs = cc in rw (sym b) refl
    by ih (Ok (On x q)) f e = on q (file_reading_from r file n (suc k) q) e (ih q t) (went r file k p x q f)

pub none_encodes : NoneEncodes
unfolding file_reading_within reading_by_within
none_encodes r file t cs e = go (allowed_check r) e
  where
    go : (a : Bool) → cond a (file_reading_from r (take most_octets file) (length (take most_octets file)) 0 first_progress) (unread 20 0 0) ≡ page t cs → not_encodable cs ≡ false
    go true e =
        let f = paged r (take most_octets file) (length (take most_octets file)) 0 first_progress t cs e in
        sym (from_left cs (λ z. omega (arith, f.count, f.whole))) ∙ from_record r (take most_octets file) (length (take most_octets file)) 0 first_progress t cs e
    go false e = differ cc
