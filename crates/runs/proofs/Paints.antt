-- `plus` and the fresh pixels depend on a predicate only within the window, so runs that have the figure's pixels there draw it.
use Prim.Native.Nat.{ℕ}
use mathlib.Core.Path.{◌≡◌, ap, ap₂}
use mathlib.Core.List.{List}
use lib.IntN.{ℤ}
use lib.ListN.{length}
use Rattle.coordinate.specs.declared.axis.Axis.{Axis}
use Rattle.refusal.specs.Refusal.{given, first_met}
use Rattle.raster.specs.Window.{frame_conditions}
use Rattle.raster.specs.declared.window.Window.{Window}
use Rattle.raster.proofs.Frames.{Shaped, frame}
use Rattle.raster.proofs.Plus.{plus_cong}
use Rattle.raster.proofs.Fresh.{fresh_cong}
use Rattle.drawing.specs.Counts.{counts}
use Rattle.drawing.specs.Figure.{Figure}
use Rattle.drawing.specs.Drawing.{draw_counts, draw_raster}
use Rattle.runs.specs.Painting.{runs_figure}
use Rattle.runs.specs.Paints.{Paints, PaintsAsDrawn}
use Rattle.runs.proofs.Outcome.{all_passed}

module _ (f : Figure) (w : Window) (axis : Axis) (list : List ℤ) (n : ℕ) (p : Paints f w axis list n) (s : List ℕ)
    (passed : first_met (frame_conditions w (length s)) ≡ 0) where
  shape : Shaped w (length s)
  shape = (frame w (length s) passed).shape

  same_counts : draw_counts (runs_figure axis list n) w s ≡ draw_counts f w s
  same_counts = ap₂ counts p.counts (fresh_cong w s shape _ _ p.has)

  same_raster : draw_raster (runs_figure axis list n) w s ≡ draw_raster f w s
  same_raster = plus_cong w s shape _ _ p.has

  pub paints_as_drawn : PaintsAsDrawn f w axis list n s
  paints_as_drawn =
      let met = all_passed w (length s) list n passed p.room in
      record {
        counts = same_counts;
        raster = same_raster;
        answer_is = rw (met, p.none_bad) (ap given same_counts);
        raster_is = rw (met, p.none_bad) same_raster;
      }
