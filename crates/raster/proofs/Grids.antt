-- A grid's window with a raster of its length is a frame.
use Rattle.std.proofs.Common.{ℕ, ◌≡◌, [], false}
use Rattle.refusal.specs.Refusal.{first_met}
use Rattle.refusal.proofs.Conditions.{none_met}
use Rattle.raster.specs.Window.{size_out, place_out, raster_bytes, frame_conditions}
use Rattle.raster.specs.declared.grid.Grid.{Grid}
use Rattle.raster.specs.declared.window.Window.{Window}
use Rattle.raster.proofs.Frames.{Sized, Placed, Frame, sized, placed, size_in, frame}

module _ (g : Grid) where
  pub grid_in : size_out g.window ≡ false
  grid_in = size_in g.window _ g.within

  pub grid_size : Sized g.window
  grid_size = sized g.window grid_in

  pub grid_place : Placed g.window
  grid_place = placed g.window (none_met 2 (place_out g.window) [] (none_met 1 (size_out g.window) _ g.within).1).0

  pub grid_frame : (n : ℕ) → n ≡ raster_bytes g.window → Frame g.window n
  grid_frame n e = record {
    size = grid_size;
    place = grid_place;
    shape = record { wide = grid_size.width_min; length_is = e };
  }

-- where a frame is passed its raster has the window's length
pub length_in : (w : Window) (n : ℕ) → first_met (frame_conditions w n) ≡ 0 → n ≡ raster_bytes w
length_in w n e = (frame w n e).shape.length_is
