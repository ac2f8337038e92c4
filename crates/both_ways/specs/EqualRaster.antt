-- Document 01, 'The equal-raster rule': what listing and painting a line and drawing it band by band leave, for a line, a
-- window, a start and a list within the limits and for every list of bands. It is proved in proofs/EqualRaster.antt of what
-- lister, painter and band drawer promise, and promised of real calls by `draw_both_ways`. Assumes nothing.
use Rattle.std.specs.Prelude.{ℕ, ◌+◌, ◌*◌, ◌≤◌, ◌<◌, ◌≡◌, List, ◌++◌, ℤ, pos, drop}
use Rattle.coordinate.specs.Coordinate.{apart}
use Rattle.refusal.specs.Refusal.{given}
use Rattle.raster.specs.declared.window.Window.{Window}
use Rattle.drawing.specs.Counts.{fresh_of}
use Rattle.drawing.specs.Drawing.{draw_counts, draw_raster}
use Rattle.drawing.specs.Calls.{fresh_calls, EveryRow}
use Rattle.drawing.specs.ByBands.{ByBands}
use Rattle.drawing.specs.declared.band.Band.{Band}
use Rattle.runs.specs.Run.{run_list}
use Rattle.runs.specs.Painting.{paint_answer}
use Rattle.line.specs.Line.{long, short, axis}
use Rattle.line.specs.Distance.{distance}
use Rattle.line.specs.PixelFacts.{LongCoordinate, ShortCoordinate}
use Rattle.line.specs.Figure.{line_figure}
use Rattle.line.specs.declared.ends.Ends.{Ends}
use Rattle.line_list.specs.Runs.{pixels_of, runs}
use Rattle.line_list.specs.RunFacts.{RunsAreLine}
use Rattle.line_list.specs.Listing.{list_answer, listing}

-- `listed` is the list as the lister left it, `painted` the raster that the painter left, `banded` the one after the bands
pub record EqualRaster (e : Ends) (w : Window) (start : List ℕ) (list : List ℤ) (bands : List Band)
    (listed : List ℤ) (painted banded : List ℕ) : Type 0 where
  -- the lister doesn't refuse: it lists exactly the line's runs, in the line's order, and leaves the rest
  pub lister_answers : list_answer e list ≡ given (listing (axis e) (short e + 1))
  pub listed_is : listed ≡ run_list (runs e) ++ drop (3 * (short e + 1)) list
  pub runs_are_line : RunsAreLine e
  -- the painter, given that list, axis and run count, doesn't refuse: its counts are those of the line's pixels, and its raster
  -- is the start plus exactly these
  pub painter_answers : paint_answer (axis e) (short e + 1) listed w start ≡ given (draw_counts (line_figure e) w start)
  pub painted_is : painted ≡ draw_raster (line_figure e) w start
  -- band by band: which calls are refused, what they answer, what is left after all of them, and how the counts add up
  pub by_bands : ByBands (line_figure e) w start bands banded
  -- where the bands not refused take in every row, both rasters are equal in every byte
  pub equal : EveryRow w bands → painted ≡ banded
  -- and the fresh pixels of all calls add up to the painter's, as they do to those of the line drawn whole
  pub fresh_of_painter : EveryRow w bands
      → fresh_calls (line_figure e) w start bands ≡ fresh_of (paint_answer (axis e) (short e + 1) listed w start)
  -- no pixel is further than half a pixel from the exact line, whose short coordinate at step i is i × S / L from the first end
  pub half_pixel : (i : ℕ) → 2 * apart (pos (i * short e)) (pos (long e * distance e i)) ≤ long e
  -- the same of the pixel itself: it is i away from the first end along the long axis, and across it the nearest to the exact
  -- line, a half to the larger coordinate
  pub long_coordinate : (i : ℕ) → LongCoordinate e i
  pub short_coordinate : (i : ℕ) → ShortCoordinate e i
  -- all runs but the first and the last differ in length by at most one
  pub runs_alike : (j k : ℕ) → 1 ≤ j → j < short e → 1 ≤ k → k < short e → pixels_of e j ≤ pixels_of e k + 1
