-- Document 02, 1/13: after each drawing the marked pixels are those before it and the fresh ones that it answers, padding apart. It
-- holds for every figure, window and raster, refused ones too; the proof is in proofs/FreshPixels.antt. Assumes nothing.
use Rattle.std.specs.Prelude.{ℕ, ◌≡◌, List}
use Rattle.raster.specs.Fresh.{marked_count}
use Rattle.raster.specs.declared.window.Window.{Window}
use Rattle.drawing.specs.Counts.{fresh_of, counts_of, Adds}
use Rattle.drawing.specs.Figure.{Figure, EachOnce}
use Rattle.drawing.specs.Drawing.{draw_answer, draw_after}
use Rattle.drawing.specs.Band.{band_answer, band_after}
use Rattle.drawing.specs.Calls.{after_bands, fresh_calls}
use Rattle.drawing.specs.declared.band.Band.{Band}

pub record FreshPixels (f : Figure) (w : Window) (s : List ℕ) : Type 0 where
  -- drawn whole
  pub whole : Adds w s (draw_after f w s) (fresh_of (draw_answer f w s))
  -- in a band
  pub by_band : (b : Band) → Adds w s (band_after f w s b) (fresh_of (band_answer f w s b))
  -- by a list of bands
  pub by_bands : (bands : List Band) → Adds w s (after_bands f w s bands) (fresh_calls f w s bands)
  -- the same figure drawn again adds nothing
  pub again : fresh_of (draw_answer f w (draw_after f w s)) ≡ 0
  -- on a raster without a marked pixel all pixels of a single figure are fresh
  pub on_clear : EachOnce f → marked_count w s ≡ 0 → fresh_of (draw_answer f w s) ≡ (counts_of (draw_answer f w s)).count
