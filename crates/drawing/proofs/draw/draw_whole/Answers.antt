-- The test passes the figure and the frame, so the window is a grid, and the work may be called.
use mathlib.Core.Path.{◌≡◌}
use lib.ListN.{length}
use Rattle.refusal.specs.Refusal.{first_met}
use Rattle.refusal.proofs.Handing.{passed}
use Rattle.raster.specs.Window.{frame_conditions}
use Rattle.raster.proofs.Frames.{window_in}
use Rattle.raster.proofs.Grids.{length_in}
use Rattle.drawing.proofs.Conditions.{figure_in, frame_in}
use Rattle.drawing.proofs.draw.draw_whole.Given.{Over}
use Rattle.drawing.proofs.draw.draw_whole.Goals.{In_ok-check_whole}
use Rattle.drawing.proofs.draw.draw_whole.Goals as goal

-- what the test passed
within : (g : Over) (c : In_ok-check_whole g) → first_met (frame_conditions c.args.window (length c.args.raster.now)) ≡ 0
within g c = frame_in (g.D.Draw.figure c.args.drawing) (g.met.D.Draw.drawable c.args.drawing) c.args.window _ (passed _ _ c.in_ok-check_whole.ensures)

pub invariant_of-mark : goal.invariant_of-mark
invariant_of-mark g c = record { within = window_in _ _ (within g (goal.at.invariant_of-mark g c).In_ok-check_whole) }

pub mark-requires : goal.mark-requires
mark-requires g c = (
  figure_in (g.D.Draw.figure c.args.drawing) (g.met.D.Draw.drawable c.args.drawing) c.args.window _ (passed _ _ c.in_ok-check_whole.ensures),
  length_in _ _ (within g (goal.at.mark-requires g c).In_ok-check_whole),
)
