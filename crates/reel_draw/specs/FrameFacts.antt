-- Document 02, 2/13: what follows for the frames of an accepted file, and of a file that the writer writes. The proofs are in
-- proofs/FrameFacts.antt. Assumes nothing.
use Rattle.std.specs.Prelude.{ℕ, ◌<◌, ◌≡◌, false, List, ℤ, length}
use Rattle.std.specs.Prelude.{Option, None, Some}
use Rattle.refusal.specs.Refusal.{Answer, given, refused_at, answer, unless_refused, first_met}
use Rattle.raster.specs.declared.window.Window.{Window}
use Rattle.drawing.specs.Counts.{Adds}
use Rattle.drawing.specs.Band.{rows_conditions, band_counts, band_raster}
use Rattle.drawing.specs.declared.band.Band.{Band}
use Rattle.drawing.specs.declared.counts.Counts.{Counts}
use Rattle.line.specs.Line.{ends_out}
use Rattle.reel.specs.Reel.{encoded, table}
use Rattle.reel.specs.Reading.{frame_part, records_in}
use Rattle.reel.specs.RoundTrip.{frame_records}
use Rattle.reel_draw.specs.Records.{record_count, record_line, records_figure}
use Rattle.reel_draw.specs.Drawing.{frame_answer, frame_after}

-- in an accepted file no record of a frame meets 1, so it can be handed to every line operation
abbrev pub NeverOne : List ℕ → Type 0
NeverOne file =
    (k j : ℕ) → k < length (table file) → j < record_count (records_in file (frame_part (table file) k))
    → ends_out (record_line (records_in file (frame_part (table file) k)) j) ≡ false

-- the fresh pixels of a drawing, 0 where it is refused or the frame isn't there
abbrev pub fresh_of_frame : Answer (Option Counts) → ℕ
fresh_of_frame (given None) = 0
fresh_of_frame (given (Some c)) = c.fresh
fresh_of_frame (refused_at n place) = 0

-- after drawing a frame the marked pixels are those before it and the fresh ones, padding apart: for every file, accepted or not
abbrev pub FrameAdds : List ℕ → ℕ → Window → List ℕ → Band → Type 0
FrameAdds file k w s b = Adds w s (frame_after file k w s b) (fresh_of_frame (frame_answer file k w s b))

-- a list and a table that the writer doesn't refuse: drawing frame k of their file draws the frame's records of the list, and
-- only the window, the raster and the band can refuse it
pub record DrawnAsWritten (list : List ℤ) (numbers : List ℕ) (k : ℕ) (w : Window) (s : List ℕ) (b : Band) : Type 0 where
  pub answers : frame_answer (encoded list numbers) k w s b
      ≡ answer (first_met (rows_conditions w (length s) b)) (Some (band_counts (records_figure (frame_records list numbers k)) w s b))
  pub leaves : frame_after (encoded list numbers) k w s b
      ≡ unless_refused (first_met (rows_conditions w (length s) b)) (band_raster (records_figure (frame_records list numbers k)) w b s) s
