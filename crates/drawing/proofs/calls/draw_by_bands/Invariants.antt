-- The raster is the one after the calls made so far; the refused ones among them and their fresh pixels are added up.
use Rattle.drawing.proofs.CallLaws.{Called}
use Rattle.drawing.proofs.calls.draw_by_bands.Given as goal

abbrev pub invariant-loop-first : goal.invariant-loop-first
invariant-loop-first g l = Called (g.D.Draw.figure l.drawing) l.window l.initial.raster l.bands l.raster l.refused l.fresh l.first-index
