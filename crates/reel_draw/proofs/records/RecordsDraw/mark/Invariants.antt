-- The lines of the first k records are drawn.
use Prim.Native.Nat.{ℕ}
use Rattle.drawing.proofs.Several.{Drew}
use Rattle.line.specs.Figure.{line_figure}
use Rattle.reel.specs.Reel.{coordinates}
use Rattle.reel_draw.specs.Records.{record_line}
use Rattle.reel_draw.proofs.records.RecordsDraw.mark.Given as goal

abbrev pub invariant-loop-k : goal.invariant-loop-k
invariant-loop-k l =
    Drew (λ (k : ℕ). line_figure (record_line (coordinates l.self.bytes.now) k)) l.grid.window l.initial.raster l.raster l.count l.fresh l.k
