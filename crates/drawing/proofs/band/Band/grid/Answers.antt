-- The band begins above the window's last row, so its top is a coordinate, and its rows are within the limits.
use Rattle.std.proofs.Common.{arith, refl, ap, ◌∙◌}
use Rattle.refusal.specs.Refusal.{first_met}
use Rattle.raster.specs.Window.{raster_bytes, window_conditions}
use Rattle.raster.specs.declared.window.Window.{Window}
use Rattle.raster.proofs.Frames.{Frame, frame_met, window_in}
use Rattle.raster.proofs.Grids.{grid_frame}
use Rattle.drawing.proofs.Limits.{Within, band_within, band_frame, first_small, top_sum, window_made}
use Rattle.drawing.proofs.band.Band.grid.Goals.{Start}
use Rattle.drawing.proofs.band.Band.grid.Goals as goal

module _ (c : Start) where
  frm : Frame c.args.grid.window (raster_bytes c.args.grid.window)
  frm = grid_frame c.args.grid _ refl

  rows : Within c.args.grid.window c.args.self
  rows = band_within c.args.grid.window c.args.self c.requires

pub overflow_cast-window : goal.overflow_cast-window
overflow_cast-window c = let s = (goal.at.overflow_cast-window c).Start in
    record { sfits = omega (arith, first_small _ _ _ (frm s) (rows s), (frm s).size.height_max) }

pub overflow_add-window : goal.overflow_add-window
overflow_add-window c = let s = (goal.at.overflow_add-window c).Start in top_sum _ _ _ (frm s) (rows s)

pub invariant_of-result : goal.invariant_of-result
invariant_of-result c =
    let s = (goal.at.invariant_of-result c).Start in
    record {
      within =
          ap (λ (v : Window). first_met (window_conditions v)) (window_made _ _ _ (frm s) (rows s))
          ∙ window_in _ _ (frame_met _ _ (band_frame _ _ _ (frm s) (rows s)));
    }

pub returns : goal.returns
returns c = let s = (goal.at.returns c).Start in window_made _ _ _ (frm s) (rows s)
