-- A frame is refused by the window, the raster and the band first, then by the file; where none refuses it, what the reader finds is
-- drawn.
use Prim.Native.Nat.{ℕ}
use mathlib.Core.Path.{◌≡◌, sym, ap, ◌∙◌}
use mathlib.Core.Bool.{Bool}
use mathlib.Core.List.{List}
use Rattle.std.specs.Prelude.{Option, None, Some}
use lib.ListN.{length}
use lib.Dec.{lit≤}
use Rattle.refusal.specs.Refusal.{Answer, given, turned_away, answer, unless_refused, first_met, Numbered}
use Rattle.refusal.specs.declared.refusal.Refusal.{Refusal}
use Rattle.refusal.proofs.Conditions.{append_passed}
use Rattle.refusal.proofs.Handing.{handed_on, handed_back, kept, same_number, given_by}
use Rattle.raster.specs.declared.window.Window.{Window}
use Rattle.drawing.specs.Band.{rows_conditions, band_counts, band_raster}
use Rattle.drawing.specs.declared.band.Band.{Band}
use Rattle.drawing.specs.declared.counts.Counts.{Counts}
use Rattle.reel.specs.Reel.{table}
use Rattle.reel.specs.Reading.{file_conditions, part_of, find_answer, records_in}
use Rattle.reel.specs.declared.find.FramePart.{FramePart}
use Rattle.reel_draw.specs.Records.{records_figure}
use Rattle.reel_draw.specs.Drawing.{frame_band_conditions, part_counts, part_raster, frame_answer, frame_after}

-- the numbers of the conditions on the window, the raster and the band
pub rows_numbered : (w : Window) (n : ℕ) (b : Band) → Numbered (rows_conditions w n b)
rows_numbered w n b = (lit≤ tt, (lit≤ tt, (lit≤ tt, (lit≤ tt, tt))))

module _ (file : List ℕ) (k : ℕ) (w : Window) (s : List ℕ) (b : Band) where
  -- what is tested before the file
  abbrev earlier : List (ℕ × Bool)
  earlier = rows_conditions w (length s) b

  abbrev number : ℕ
  number = first_met (frame_band_conditions file w (length s) b)

  -- the answer a and the raster t are those of the operation
  abbrev pub DrawsFrame : Answer (Option Counts) → List ℕ → Type 0
  DrawsFrame a t = (a ≡ frame_answer file k w s b) × (t ≡ frame_after file k w s b)

  turned_away_lem : (x : Refusal) → ◌≡◌ {A = Answer Unit} (turned_away x) (answer number tt) → DrawsFrame (turned_away x) s
  turned_away_lem x told = (handed_on x number _ told, kept x number _ s told)

  -- refused by the window, the raster or the band
  pub rows_refused : (x : Refusal) → ◌≡◌ {A = Answer Unit} (turned_away x) (answer (first_met earlier) tt) → DrawsFrame (turned_away x) s
  rows_refused x e = turned_away_lem x (e ∙ ap (λ (n : ℕ). answer n tt) (sym (same_number x earlier (file_conditions file) e)))

  -- these passed, the file decides
  module _ (passed : first_met earlier ≡ 0) where
    file_decides : number ≡ first_met (file_conditions file)
    file_decides = append_passed earlier (file_conditions file) (rows_numbered w (length s) b) passed

    pub file_refused : (x : Refusal) → turned_away x ≡ find_answer file k → DrawsFrame (turned_away x) s
    file_refused x e =
        turned_away_lem x (handed_back x (first_met (file_conditions file)) (part_of (table file) k) e ∙ ap (λ (n : ℕ). answer n tt) (sym file_decides))

    -- the file is accepted: what is found in it is drawn
    found-drawn : (p : Option FramePart) → given p ≡ find_answer file k → DrawsFrame (given (part_counts file p w s b)) (part_raster file p w b s)
    found-drawn p e =
        let known = given_by (first_met (file_conditions file)) p (part_of (table file) k) e in
        let none_met : number ≡ 0 = file_decides ∙ known.0 in (
          ap (λ (q : Option FramePart). given (part_counts file q w s b)) known.1
              ∙ ap (λ (n : ℕ). answer n (part_counts file (part_of (table file) k) w s b)) (sym none_met),
          ap (λ (q : Option FramePart). part_raster file q w b s) known.1
              ∙ ap (λ (n : ℕ). unless_refused n (part_raster file (part_of (table file) k) w b s) s) (sym none_met),
        )

    pub no_frame : given None ≡ find_answer file k → DrawsFrame (given None) s
    no_frame e = found-drawn None e

    pub frame_drawn : (part : FramePart) → given (Some part) ≡ find_answer file k → (m : Counts) (t : List ℕ)
        → m ≡ band_counts (records_figure (records_in file part)) w s b → t ≡ band_raster (records_figure (records_in file part)) w b s → DrawsFrame (given (Some m)) t
    frame_drawn part e m t p q =
        let d = found-drawn (Some part) e in
        (ap (λ (x : Counts). given (Some x)) p ∙ d.0, q ∙ d.1)
