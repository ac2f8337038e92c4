-- What a line brings to be drawn: its condition has a number, and its steps' pixels differ, since each is another distance from the
-- first end. The laws of drawing then hold of it.
use Prim.Native.Nat.{ℕ, suc, ◌<◌}
use mathlib.Core.Path.{◌≡◌, ap}
use mathlib.Core.Bool.{false}
use mathlib.Core.List.{List, []}
use native.Mathlib.Omega.{arith}
use lib.Dec.{lit≤}
use Rattle.coordinate.specs.Coordinate.{apart}
use Rattle.coordinate.specs.declared.pixel.Pixel.{Pixel}
use Rattle.refusal.specs.Refusal.{first_met}
use Rattle.refusal.proofs.Conditions.{none_met, unmet}
use Rattle.raster.specs.declared.window.Window.{Window}
use Rattle.drawing.specs.Figure.{EachOnce, Drawable}
use Rattle.drawing.specs.FreshPixels.{FreshPixels}
use Rattle.drawing.proofs.Once.{all_differ}
use Rattle.drawing.proofs.Parts.{single_drawable}
use Rattle.drawing.proofs.FreshPixels.{fresh_pixels}
use Rattle.line.specs.Line.{long, pixel, on_line, long_of, ends_out, ends_conditions}
use Rattle.line.specs.PixelFacts.{first_long}
use Rattle.line.specs.Figure.{line_count, line_figure}
use Rattle.line.specs.declared.ends.Ends.{Ends}
use Rattle.line.proofs.PixelFacts.{long_coordinate}

module _ (e : Ends) where
  steps_differ : (i j : ℕ) → i < j → j < suc (long e) → pixel e i ≡ pixel e j → ⊥
  steps_differ i j l m same =
      omega (
        arith,
        (long_coordinate e i).from_first,
        (long_coordinate e j).from_first,
        ap (λ (p : Pixel). apart (first_long e) (long_of e p)) same,
      )

  -- the line's count in a window is the number of the window's pixels that are its
  pub line_once : EachOnce (line_figure e)
  unfolding on_line line_count
  line_once w = all_differ w (pixel e) (suc (long e)) steps_differ

  pub line_drawable : Drawable (line_figure e)
  line_drawable = single_drawable (line_figure e) (lit≤ tt, tt) line_once

  -- the ends meet no condition exactly if no coordinate is out of range
  pub ends_in : first_met (ends_conditions e) ≡ 0 → ends_out e ≡ false
  ends_in h = (none_met 0 (ends_out e) [] h).0

  pub ends_met : ends_out e ≡ false → first_met (ends_conditions e) ≡ 0
  unfolding first_met
  ends_met h = unmet 1 (ends_out e) [] h

  -- document 02, 1/13, of a line
  pub line_fresh_pixels : (w : Window) (s : List ℕ) → FreshPixels (line_figure e) w s
  line_fresh_pixels w s = fresh_pixels (line_figure e) line_drawable w s
