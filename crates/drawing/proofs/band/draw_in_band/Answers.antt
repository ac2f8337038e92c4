-- The test passes the figure, the frame and the band, so the window is a grid, and the work may be called.
use mathlib.Core.Path.{◌≡◌}
use lib.ListN.{length}
use Rattle.refusal.specs.Refusal.{first_met}
use Rattle.refusal.proofs.Handing.{passed}
use Rattle.drawing.specs.Band.{rows_conditions}
use Rattle.drawing.proofs.Conditions.{figure_passed, rows_passed}
use Rattle.drawing.proofs.Limits.{rows_window, rows_in, rows_frame}
use Rattle.drawing.proofs.band.draw_in_band.Given.{Over}
use Rattle.drawing.proofs.band.draw_in_band.Goals.{In_ok-check_band}
use Rattle.drawing.proofs.band.draw_in_band.Goals as goal

-- what the test passed
ready : (g : Over) (c : In_ok-check_band g) → first_met (rows_conditions c.args.window (length c.args.raster.now) c.args.band) ≡ 0
ready g c = rows_passed (g.D.Draw.figure c.args.drawing) (g.met.D.Draw.drawable c.args.drawing) c.args.window _ c.args.band (passed _ _ c.in_ok-check_band.ensures)

pub invariant_of-mark_band : goal.invariant_of-mark_band
invariant_of-mark_band g c = record { within = rows_window _ _ _ (ready g (goal.at.invariant_of-mark_band g c).In_ok-check_band) }

pub mark_band-requires-clause-passed : goal.mark_band-requires-clause-passed
mark_band-requires-clause-passed g c = (
  figure_passed (g.D.Draw.figure c.args.drawing) (g.met.D.Draw.drawable c.args.drawing) c.args.window _ c.args.band (passed _ _ c.in_ok-check_band.ensures),
  rows_in _ _ _ (ready g (goal.at.mark_band-requires-clause-passed g c).In_ok-check_band),
)

pub mark_band-requires-clause-room : goal.mark_band-requires-clause-room
mark_band-requires-clause-room g c = (rows_frame _ _ _ (ready g (goal.at.mark_band-requires-clause-room g c).In_ok-check_band)).shape.length_is
