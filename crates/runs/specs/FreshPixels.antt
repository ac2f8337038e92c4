-- Document 02, 1/13: after painting a list the marked pixels are those before it and the fresh ones that the painter answers, padding
-- apart, whatever list it is, refused ones too; the proof is in proofs/FreshPixels.antt. Assumes nothing.
use Rattle.std.specs.Prelude.{ℕ, List, ℤ}
use Rattle.coordinate.specs.declared.axis.Axis.{Axis}
use Rattle.raster.specs.declared.window.Window.{Window}
use Rattle.drawing.specs.Counts.{fresh_of, Adds}
use Rattle.runs.specs.Painting.{paint_answer, paint_after}

abbrev pub PaintAdds : Axis → ℕ → List ℤ → Window → List ℕ → Type 0
PaintAdds axis n list w s = Adds w s (paint_after axis n list w s) (fresh_of (paint_answer axis n list w s))
