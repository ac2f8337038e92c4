-- The walker has marked all steps up to its own, and `fresh` is what the bits grew by.
use Rattle.std.proofs.Common.{◌≡◌, ◌+◌, ◌≤◌}
use Rattle.line_draw.proofs.Marking.{Marked, Of}
use Rattle.line_draw.proofs.walk.SingleStepWalk.walk.Given as goal

abbrev pub invariant-loop-i : goal.invariant-loop-i
invariant-loop-i l = record {
  walk : Of l.fn.start.line.ends l.fn.start.grid.window l.walker;
  step_is : l.walker.step + 1 ≡ l._i;
  within : l._i ≤ l.fn.end;
  marked : Marked l.fn.start.line.ends l.fn.start.grid.window l.fn.raster l.fn.start.step l.raster l.fresh l._i;
}
