-- Document 01, 'The equal-raster rule': what drawing a figure band by band leaves, for a figure, a window and a start within the
-- limits and for every list of bands. It is proved in proofs/ByBands.antt. Assumes nothing.
use Rattle.std.specs.Prelude.{ℕ, ◌≡◌, Bool, cond, List, ℤ}
use Rattle.refusal.specs.Refusal.{given, refused}
use Rattle.raster.specs.Raster.{plus}
use Rattle.raster.specs.StartPlus.{StartPlus}
use Rattle.raster.specs.Fresh.{fresh_count}
use Rattle.raster.specs.declared.window.Window.{Window}
use Rattle.drawing.specs.Counts.{counts_of, fresh_of}
use Rattle.drawing.specs.Figure.{Figure}
use Rattle.drawing.specs.Drawing.{draw_raster, draw_answer}
use Rattle.drawing.specs.Band.{band_out, band_counts, band_answer}
use Rattle.drawing.specs.Calls.{after_bands, fresh_calls, count_calls, bands_of, EveryRow, EachRowOnce}
use Rattle.drawing.specs.declared.band.Band.{Band}

-- `banded` is the raster after the bands
pub record ByBands (f : Figure) (w : Window) (start : List ℕ) (bands : List Band) (banded : List ℕ) : Type 0 where
  -- after any calls, refused ones among them, a call is refused exactly if its band meets 6, and else answers the counts of the
  -- figure's pixels in its rows
  pub band_answers : (before : List Band) (b : Band)
      → band_answer f w (after_bands f w start before) b
      ≡ cond (band_out w b) (refused 6) (given (band_counts f w (after_bands f w start before) b))
  -- after all calls: the start plus exactly the figure's pixels in the rows of the bands not refused
  pub banded_is : banded ≡ plus w start (bands_of w bands f.has)
  -- where these take in every row, that is the raster of the figure drawn whole
  pub whole : EveryRow w bands → banded ≡ draw_raster f w start
  -- the fresh pixels of all calls add up to the figure's in those rows that are unmarked at the start
  pub fresh_adds_up : fresh_calls f w start bands ≡ fresh_count w start (bands_of w bands f.has)
  -- where the bands take in every row, that is the count of the figure drawn whole
  pub fresh_of_whole : EveryRow w bands → fresh_calls f w start bands ≡ fresh_of (draw_answer f w start)
  -- which they do where they take in each row exactly once; then the counts add up to that of the figure drawn whole as well
  pub once_is_every : EachRowOnce w bands → EveryRow w bands
  pub count_of_whole : EachRowOnce w bands → count_calls f w start bands ≡ (counts_of (draw_answer f w start)).count
  -- the start plus some pixels is what document 01 says of it, bit by bit
  pub start_plus : (P : ℤ → ℤ → Bool) → StartPlus w start P (plus w start P)
