-- A run list that paints a figure: the painter, given it, draws the figure. Every shape that is listed as runs is drawn so; the proof is
-- in proofs/Paints.antt. Assumes nothing.
use Rattle.std.specs.Prelude.{ℕ, ◌*◌, ◌≤◌, ◌<◌, ◌≡◌, List, ℤ, pos, ◌+ℤ◌, length, None}
use Rattle.coordinate.specs.declared.axis.Axis.{Axis}
use Rattle.refusal.specs.Refusal.{given}
use Rattle.raster.specs.declared.window.Window.{Window}
use Rattle.drawing.specs.Figure.{Figure}
use Rattle.drawing.specs.Drawing.{draw_counts, draw_raster}
use Rattle.runs.specs.Painting.{first_bad, runs_figure, paint_answer, paint_after}

-- the first n runs of the list paint f in the window
pub record Paints (f : Figure) (w : Window) (axis : Axis) (list : List ℤ) (n : ℕ) : Type 0 where
  -- they are there, and none is bad
  pub room : 3 * n ≤ length list
  pub none_bad : first_bad list n ≡ None
  -- their pixels in the window are the figure's, and so is the sum of their counts there
  pub has : (c r : ℕ) → c < w.width → r < w.height
      → (runs_figure axis list n).has (w.left +ℤ pos c) (w.top +ℤ pos r) ≡ f.has (w.left +ℤ pos c) (w.top +ℤ pos r)
  pub counts : (runs_figure axis list n).count w ≡ f.count w

-- then, on a raster of the window within the limits, the painter's work is the drawing of f, and the painter doesn't refuse
pub record PaintsAsDrawn (f : Figure) (w : Window) (axis : Axis) (list : List ℤ) (n : ℕ) (s : List ℕ) : Type 0 where
  pub counts : draw_counts (runs_figure axis list n) w s ≡ draw_counts f w s
  pub raster : draw_raster (runs_figure axis list n) w s ≡ draw_raster f w s
  pub answer_is : paint_answer axis n list w s ≡ given (draw_counts f w s)
  pub raster_is : paint_after axis n list w s ≡ draw_raster f w s
