-- Document 01, 'The equal-raster rule': a line that is listed and painted in one raster and drawn band by band in another.
-- Assumes nothing.
use Rattle.std.specs.Prelude.{ℕ, ◌+◌, ◌*◌, Bool, List, [], ◌∷◌, ◌++◌, ℤ, length, ltb}
use Rattle.refusal.specs.Refusal.{Answer, answer, first_met}
use Rattle.raster.specs.Window.{length_off}
use Rattle.raster.specs.declared.window.Window.{Window}
use Rattle.drawing.specs.Drawing.{draw_conditions, draw_counts}
use Rattle.drawing.specs.Calls.{band_list, band_calls}
use Rattle.line.specs.Line.{short, axis}
use Rattle.line.specs.Figure.{line_figure}
use Rattle.line.specs.declared.ends.Ends.{Ends}
use Rattle.line_list.specs.Listing.{listing}
use Rattle.both_ways.specs.declared.draw.Both.{Both}

-- what refuses a line, a window and rasters of n and m bytes: 1, 2, 3, and 4 for each raster
abbrev pub frames_conditions : Ends → Window → ℕ → ℕ → List (ℕ × Bool)
frames_conditions e w n m = draw_conditions (line_figure e) w n ++ ((4, length_off w m) ∷ [])

-- with a list of k numbers: 5 as well
abbrev pub both_conditions : Ends → Window → ℕ → ℕ → ℕ → List (ℕ × Bool)
both_conditions e w n m k = frames_conditions e w n m ++ ((5, ltb k (3 * (short e + 1))) ∷ [])

-- the number of the first condition met by a line, a window, a list and two rasters
abbrev pub both_met : Ends → Window → List ℤ → List ℕ → List ℕ → ℕ
both_met e w list s t = first_met (both_conditions e w (length s) (length t) (length list))

-- the values that are answered: what was listed, the painter's counts, and what the calls of the band drawer add up to
abbrev pub both_values : Ends → Window → List ℕ → List ℕ → List ℕ → Both
both_values e w s t bands =
    record {
      listing = listing (axis e) (short e + 1);
      painted = draw_counts (line_figure e) w s;
      banded = band_calls (line_figure e) w t (band_list bands);
    }

abbrev pub both_answer : Ends → Window → List ℤ → List ℕ → List ℕ → List ℕ → Answer Both
both_answer e w list bands s t = answer (both_met e w list s t) (both_values e w s t bands)
