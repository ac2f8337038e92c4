-- The law that `Draw` asks of the runs of a list, with its proof, which has to stand here: a run's pixels differ, since each is another
-- distance from its lowest, so each counts once. Assumes nothing.
use Prim.Native.Nat.{ℕ}
use mathlib.Core.Path.{◌≡◌, ap}
use mathlib.Core.List.{List}
use native.Mathlib.Omega.{arith}
use lib.IntN.{ℤ, pos, ◌+ℤ◌}
use Rattle.coordinate.specs.declared.axis.Axis.{Axis}
use Rattle.coordinate.specs.declared.axis.Axis.TheVariants.{X, Y}
use Rattle.coordinate.specs.declared.pixel.Pixel.{Pixel}
use Rattle.coordinate.proofs.Difference.{diff_parts, diff_plus, diff_same}
use Rattle.drawing.specs.Figure.{EachOnce, Drawable}
use Rattle.drawing.proofs.Once.{all_differ}
use Rattle.drawing.proofs.Parts.{several_drawable}
use Rattle.runs.specs.Run.{Run, run_pixel, in_run, run_count, run_figure}
use Rattle.runs.specs.Painting.{run_at, runs_figure}

-- the coordinates j and k away from z are the same only where j is k
away_same : (z : ℤ) (j k : ℕ) → z +ℤ pos j ≡ z +ℤ pos k → j ≡ k
away_same z j k e =
    omega (arith, diff_same (z +ℤ pos j) (z +ℤ pos k) _ _ _ _ (diff_plus z _ _ j (diff_parts z)) (diff_plus z _ _ k (diff_parts z)) e)

pixels_differ : (axis : Axis) (r : Run) (j k : ℕ) → run_pixel axis r j ≡ run_pixel axis r k → j ≡ k
pixels_differ X r j k e = away_same r.lowest j k (ap (λ (p : Pixel). p.column) e)
pixels_differ Y r j k e = away_same r.lowest j k (ap (λ (p : Pixel). p.row) e)

-- a run's count in a window is the number of the window's pixels that are its
pub run_once : (axis : Axis) (r : Run) → EachOnce (run_figure axis r)
unfolding in_run run_count
run_once axis r w = all_differ w (run_pixel axis r) r.pixels (λ j k l m e. omega (arith, pixels_differ axis r j k e))

pub runs_drawable : (axis : Axis) (list : List ℤ) (n : ℕ) → Drawable (runs_figure axis list n)
runs_drawable axis list n = several_drawable n (λ k. run_figure axis (run_at list k)) (λ k. run_once axis (run_at list k))
