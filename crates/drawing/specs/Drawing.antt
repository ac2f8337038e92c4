-- Document 01, 'Operations': what drawing a figure in a window marks, counts and refuses. Assumes nothing.
use Rattle.std.specs.Prelude.{ℕ, Bool, List, ◌++◌, length}
use Rattle.refusal.specs.Refusal.{Answer, answer, unless_refused, first_met}
use Rattle.raster.specs.Raster.{plus}
use Rattle.raster.specs.Window.{frame_conditions}
use Rattle.raster.specs.Fresh.{fresh_count}
use Rattle.raster.specs.declared.window.Window.{Window}
use Rattle.drawing.specs.Counts.{counts}
use Rattle.drawing.specs.Figure.{Figure}
use Rattle.drawing.specs.declared.counts.Counts.{Counts}

-- how many of its pixels lie in the window, and how many of them are unmarked at the start
abbrev pub draw_counts : Figure → Window → List ℕ → Counts
draw_counts f w s = counts (f.count w) (fresh_count w s f.has)

-- the raster after it is drawn: the start plus its pixels
abbrev pub draw_raster : Figure → Window → List ℕ → List ℕ
draw_raster f w s = plus w s f.has

-- what refuses a figure, a window and a raster of n bytes: the figure's own conditions, then 2, 3, 4
abbrev pub draw_conditions : Figure → Window → ℕ → List (ℕ × Bool)
draw_conditions f w n = f.refusals ++ frame_conditions w n

-- what a drawer answers to a figure, a window and a raster, and what it leaves in the raster
abbrev pub draw_answer : Figure → Window → List ℕ → Answer Counts
draw_answer f w s = answer (first_met (draw_conditions f w (length s))) (draw_counts f w s)

abbrev pub draw_after : Figure → Window → List ℕ → List ℕ
draw_after f w s = unless_refused (first_met (draw_conditions f w (length s))) (draw_raster f w s) s
