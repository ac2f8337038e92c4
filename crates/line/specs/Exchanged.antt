-- Document 02, 6/13: the line from the second end to the first has the same pixels, step by step from the other end, so that
-- every drawing of it is the same; the proof is in proofs/Exchanged.antt. Assumes nothing.
use Rattle.std.specs.Prelude.{ℕ, ◌+◌, ◌-◌, ◌≤◌, ◌≡◌, List, ℤ}
use Rattle.raster.specs.declared.window.Window.{Window}
use Rattle.drawing.specs.Drawing.{draw_answer, draw_after, draw_raster}
use Rattle.drawing.specs.Band.{band_answer, band_after}
use Rattle.drawing.specs.Calls.{after_bands, band_calls}
use Rattle.drawing.specs.declared.band.Band.{Band}
use Rattle.line.specs.Line.{long, short, axis, pixel, on_line, ends_out}
use Rattle.line.specs.Distance.{distance}
use Rattle.line.specs.Figure.{line_count, line_figure}
use Rattle.line.specs.declared.ends.Ends.{Ends}

-- the second end first
abbrev pub exchanged : Ends → Ends
exchanged e = record { x0 = e.x1; y0 = e.y1; x1 = e.x0; y1 = e.y0 }

pub record SamePixels (e : Ends) : Type 0 where
  pub long_is : long (exchanged e) ≡ long e
  pub short_is : short (exchanged e) ≡ short e
  pub axis_is : axis (exchanged e) ≡ axis e
  pub pixel_is : (i : ℕ) → i ≤ long e → pixel (exchanged e) i ≡ pixel e (long e - i)
  pub distance_is : (i : ℕ) → i ≤ long e → distance (exchanged e) i + distance e (long e - i) ≡ short e
  pub on_line_lem : (column row : ℤ) → on_line (exchanged e) column row ≡ on_line e column row
  -- it meets 1 from both ends, or from neither
  pub ends_out_lem : ends_out (exchanged e) ≡ ends_out e
  -- as many of its pixels lie in a window
  pub counts : (w : Window) → line_count (exchanged e) w ≡ line_count e w
  -- so it is the same figure, and every drawing of it, whole, in bands or among others, is the same
  pub figure_is : line_figure (exchanged e) ≡ line_figure e

-- in every window and on every start both counts are the same, or the refusal is, and so is the raster in every byte
pub record SameDrawing (e : Ends) (w : Window) (s : List ℕ) : Type 0 where
  pub answers : draw_answer (line_figure (exchanged e)) w s ≡ draw_answer (line_figure e) w s
  pub leaves : draw_after (line_figure (exchanged e)) w s ≡ draw_after (line_figure e) w s
  -- the start plus the line's pixels, where nothing is refused
  pub raster_is : draw_raster (line_figure (exchanged e)) w s ≡ draw_raster (line_figure e) w s
  -- in a band
  pub band_answers : (b : Band) → band_answer (line_figure (exchanged e)) w s b ≡ band_answer (line_figure e) w s b
  pub band_leaves : (b : Band) → band_after (line_figure (exchanged e)) w s b ≡ band_after (line_figure e) w s b
  -- by a list of band calls
  pub calls_answer : (bands : List Band) → band_calls (line_figure (exchanged e)) w s bands ≡ band_calls (line_figure e) w s bands
  pub calls_leave : (bands : List Band) → after_bands (line_figure (exchanged e)) w s bands ≡ after_bands (line_figure e) w s bands
