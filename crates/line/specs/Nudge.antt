-- Document 02, 6/13: two lines from one first end whose second ends differ in the short coordinate only. At each step their pixels
-- differ little, and away from these their rasters are the same; the proofs are in proofs/Nudge.antt, NearLine.antt and
-- FirstEnd.antt. Assumes nothing.
use Rattle.std.specs.Prelude.{ℕ, suc, ◌-◌, ◌*◌, ◌≤◌, ◌≡◌, Bool, ◌&&◌, List, ℤ, leb}
use Rattle.counting.specs.Count.{any}
use Rattle.coordinate.specs.Coordinate.{apart, same}
use Rattle.coordinate.specs.Nearest.{ceil_div}
use Rattle.coordinate.specs.declared.pixel.Pixel.{Pixel}
use Rattle.raster.specs.Alike.{AlikeBut}
use Rattle.raster.specs.declared.window.Window.{Window}
use Rattle.drawing.specs.Drawing.{draw_after}
use Rattle.drawing.specs.Band.{band_after}
use Rattle.drawing.specs.Calls.{after_bands}
use Rattle.drawing.specs.declared.band.Band.{Band}
use Rattle.line.specs.Line.{long, axis, pixel, long_of, across_of}
use Rattle.line.specs.PixelFacts.{second_long, second_across}
use Rattle.line.specs.Figure.{line_figure}
use Rattle.line.specs.Exchanged.{exchanged}
use Rattle.line.specs.declared.ends.Ends.{Ends}

-- f is e with its second end nudged: both have the same first end, the same long axis and an L of at least 1, and the second ends
-- differ in the short coordinate only. That L is the same follows.
pub record Nudged (e f : Ends) : Type 0 where
  pub x0_is : f.x0 ≡ e.x0
  pub y0_is : f.y0 ≡ e.y0
  pub axis_is : axis f ≡ axis e
  pub long_some : 1 ≤ long e
  pub second_long_is : second_long f ≡ second_long e

-- d, how far apart the second ends are, taken without sign
abbrev pub nudge : Ends → Ends → ℕ
nudge e f = apart (second_across e) (second_across f)

-- i × d / L, rounded up
unfoldable pub reach : Ends → ℕ → ℕ → ℕ
unfolding long
reach e d i = ceil_div (i * d) (long e)

-- at step i the pixels of two such lines differ by at most that, and only in the short coordinate
pub record MovesLittle (e f : Ends) : Type 0 where
  pub long_is : long f ≡ long e
  pub long_stays : (i : ℕ) → long_of e (pixel f i) ≡ long_of e (pixel e i)
  pub short_moves : (i : ℕ) → apart (across_of e (pixel e i)) (across_of e (pixel f i)) ≤ reach e (nudge e f) i
  -- so no pixel moves further than the end
  pub most : (i : ℕ) → i ≤ long e → apart (across_of e (pixel e i)) (across_of e (pixel f i)) ≤ nudge e f

-- the pixel p is at most i × d / L, rounded up, from the line's pixel at step i, and only across the long axis
unfoldable pub near_step : Ends → ℕ → ℕ → Pixel → Bool
unfolding pixel long_of across_of reach
near_step e d i p = same (long_of e (pixel e i)) (long_of e p) && leb (apart (across_of e (pixel e i)) (across_of e p)) (reach e d i)

-- so is the pixel in a column and a row, at one of the line's steps
unfoldable pub near_line : Ends → ℕ → ℤ → ℤ → Bool
unfolding long near_step
near_line e d column row = any (suc (long e)) (λ i. near_step e d i (record { column = column; row = row }))

-- drawn in the same window on the same start, the rasters differ at pixels that are `near` only: whole, in a band, and by a list of
-- band calls
pub record ChangesLittle (near : ℤ → ℤ → Bool) (e f : Ends) (w : Window) (s : List ℕ) : Type 0 where
  pub whole : AlikeBut w near (draw_after (line_figure e) w s) (draw_after (line_figure f) w s)
  pub in_band : (b : Band) → AlikeBut w near (band_after (line_figure e) w s b) (band_after (line_figure f) w s b)
  pub by_calls : (bands : List Band) → AlikeBut w near (after_bands (line_figure e) w s bands) (after_bands (line_figure f) w s bands)

-- Where the first end is nudged and the second stays, the line with its ends exchanged has its second end nudged: at step i the
-- pixels differ by at most (L − i) × d / L, rounded up.
pub record FirstMovesLittle (e f : Ends) : Type 0 where
  pub long_is : long f ≡ long e
  pub long_stays : (i : ℕ) → i ≤ long e → long_of e (pixel f i) ≡ long_of e (pixel e i)
  pub short_moves : (i : ℕ) → i ≤ long e
      → apart (across_of e (pixel e i)) (across_of e (pixel f i)) ≤ reach e (nudge (exchanged e) (exchanged f)) (long e - i)
  pub rasters : (w : Window) (s : List ℕ) → ChangesLittle (near_line (exchanged e) (nudge (exchanged e) (exchanged f))) e f w s

-- all of it, of all ends
pub record NudgeFacts (e f : Ends) : Type 0 where
  pub pixels : Nudged e f → MovesLittle e f
  pub rasters : Nudged e f → (w : Window) (s : List ℕ) → ChangesLittle (near_line e (nudge e f)) e f w s
  pub first_end : Nudged (exchanged e) (exchanged f) → FirstMovesLittle e f
