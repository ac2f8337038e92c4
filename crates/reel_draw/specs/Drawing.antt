-- Document 02, 2/13: drawing a frame's marks straight from a reel's file, in a band of the window. Assumes nothing.
use Rattle.std.specs.Prelude.{ℕ, Bool, List, ◌++◌, length, Option, None, Some}
use Rattle.refusal.specs.Refusal.{Answer, answer, unless_refused, first_met}
use Rattle.raster.specs.declared.window.Window.{Window}
use Rattle.drawing.specs.Band.{rows_conditions, band_counts, band_raster}
use Rattle.drawing.specs.declared.band.Band.{Band}
use Rattle.drawing.specs.declared.counts.Counts.{Counts}
use Rattle.reel.specs.Reel.{table}
use Rattle.reel.specs.Reading.{file_conditions, part_of, records_in}
use Rattle.reel.specs.declared.find.FramePart.{FramePart}
use Rattle.reel_draw.specs.Records.{records_figure}

-- what refuses a window, a raster of n bytes, a band and a file: 2, 3, 4, 6, then 10, 11, 12
abbrev pub frame_band_conditions : List ℕ → Window → ℕ → Band → List (ℕ × Bool)
frame_band_conditions file w n b = rows_conditions w n b ++ file_conditions file

-- the counts of the lines of a frame's records, and the raster after they are drawn; without the frame none, and the start
abbrev pub part_counts : List ℕ → Option FramePart → Window → List ℕ → Band → Option Counts
part_counts file None w s b = None
part_counts file (Some part) w s b = Some (band_counts (records_figure (records_in file part)) w s b)

abbrev pub part_raster : List ℕ → Option FramePart → Window → Band → List ℕ → List ℕ
part_raster file None w b s = s
part_raster file (Some part) w b s = band_raster (records_figure (records_in file part)) w b s

-- what drawing frame k answers, and what it leaves in the raster
abbrev pub frame_answer : List ℕ → ℕ → Window → List ℕ → Band → Answer (Option Counts)
frame_answer file k w s b =
    answer (first_met (frame_band_conditions file w (length s) b)) (part_counts file (part_of (table file) k) w s b)

abbrev pub frame_after : List ℕ → ℕ → Window → List ℕ → Band → List ℕ
frame_after file k w s b =
    unless_refused (first_met (frame_band_conditions file w (length s) b)) (part_raster file (part_of (table file) k) w b s) s
