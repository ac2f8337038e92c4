-- A cell is in the window, so left and top added it is a pixel of the frame.
use mathlib.Core.Path.{◌≡◌, sym, ap, ◌∙◌}
use native.Mathlib.Omega.{arith}
use lib.ListN.{length}
use Rattle.std.specs.Prelude.{Some}
use Rattle.refusal.specs.Refusal.{given}
use Rattle.refusal.proofs.Handing.{passed}
use Rattle.raster_read.specs.Search.{first_number, cell_of}
use Rattle.raster.proofs.Frames.{Frame, frame, window_in}
use Rattle.raster.proofs.Grids.{length_in}
use Rattle.raster_read.proofs.Cells.{cell_small, column_fits, row_fits, found_is, none_is}
use Rattle.raster_read.proofs.search.first_marked.Goals.{In-Some}
use Rattle.raster_read.proofs.search.first_marked.Goals as goal

pub invariant_of-first_cell : goal.invariant_of-first_cell
invariant_of-first_cell c = record { within = window_in _ _ (passed _ _ c.in_ok-check_frame.ensures) }

pub first_cell-requires : goal.first_cell-requires
first_cell-requires c = length_in _ _ (passed _ _ c.in_ok-check_frame.ensures)

pub returns-in_default : goal.returns-in_default
returns-in_default c =
    rw (passed _ _ c.in_ok-check_frame.ensures) (ap given (none_is c.args.window c.args.raster.now (sym c.in_default.is ∙ c.first_cell.ensures)))

-- the frame, and the cell that was found in it
module _ (c : In-Some) where
  in_frame : Frame c.args.window (length c.args.raster.now)
  in_frame = frame c.args.window (length c.args.raster.now) (passed _ _ c.in_ok-check_frame.ensures)

  told : Some c.in-Some.cell ≡ cell_of c.args.window.width (first_number c.args.window c.args.raster.now)
  told = sym c.in-Some.is ∙ c.first_cell.ensures

pub overflow_cast-result : goal.overflow_cast-result
overflow_cast-result c = let p = (goal.at.overflow_cast-result c).In-Some in record { sfits = omega (arith, cell_small _ _ _ (in_frame p) _ _ (told p)) }

pub overflow_add-result : goal.overflow_add-result
overflow_add-result c = let p = (goal.at.overflow_add-result c).In-Some in column_fits _ p.args.raster.now _ (in_frame p) _ _ (told p)

pub overflow_cast-result-2 : goal.overflow_cast-result-2
overflow_cast-result-2 c = let p = (goal.at.overflow_cast-result-2 c).In-Some in record { sfits = omega (arith, cell_small _ _ _ (in_frame p) _ _ (told p)) }

pub overflow_add-result-2 : goal.overflow_add-result-2
overflow_add-result-2 c = let p = (goal.at.overflow_add-result-2 c).In-Some in row_fits _ p.args.raster.now _ (in_frame p) _ _ (told p)

pub returns : goal.returns
returns c = let p = (goal.at.returns c).In-Some in
    rw (passed _ _ c.in_ok-check_frame.ensures) (ap given (found_is p.args.window p.args.raster.now _ (in_frame p) _ _ (told p)))
