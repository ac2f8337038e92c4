-- At turn k the first k runs are painted and counted.
use Prim.Native.Nat.{ℕ}
use Rattle.drawing.proofs.Several.{Drew}
use Rattle.runs.specs.Run.{run_figure}
use Rattle.runs.specs.Painting.{run_at}
use Rattle.runs.proofs.paint.RunsDraw.mark.Given as goal

abbrev pub invariant-loop-run : goal.invariant-loop-run
invariant-loop-run l = Drew (λ (k : ℕ). run_figure l.self.axis (run_at l.self.list.now k)) l.grid.window l.initial.raster l.raster l.count l.fresh l.run-index
