-- The walker has marked all steps before its own, and `fresh` is what the bits grew by. A turn marks its own and the next.
use Rattle.std.proofs.Common.{◌-◌, ◌<◌}
use Rattle.line_draw.proofs.Marking.{Marked, Of}
use Rattle.line_draw.proofs.walk.walk_pairs.Given as goal

abbrev pub invariant-loop-walker : goal.invariant-loop-walker
invariant-loop-walker l = record {
  walk : Of l.fn.start.line.ends l.fn.start.grid.window l.walker;
  left : l.walker.step < l.end;
  marked : Marked l.fn.start.line.ends l.fn.start.grid.window l.fn.raster l.fn.start.step l.raster l.fresh l.walker.step;
}

abbrev pub decreases-loop-walker : goal.decreases-loop-walker
decreases-loop-walker l = l.end - l.walker.step
