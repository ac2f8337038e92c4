-- The window of the band's rows is a grid, and their part of the raster is its raster, so the figure is marked there.
use native.Mathlib.Omega.{arith}
use lib.ListN.{length}
use Rattle.raster.proofs.Frames.{Frame}
use Rattle.raster.proofs.Grids.{grid_frame}
use Rattle.raster.proofs.Over.{Bytes}
use Rattle.drawing.proofs.Limits.{Within, band_within}
use Rattle.drawing.proofs.BandRows.{part_in, lent_length, band_counted, band_drawn}
use Rattle.drawing.proofs.band.mark_band.Given.{Over}
use Rattle.drawing.proofs.band.mark_band.Goals.{Start}
use Rattle.drawing.proofs.band.mark_band.Goals as goal

-- what the caller has tested
frm : (g : Over) (c : Start g) → Frame c.args.grid.window (length c.args.raster.now)
frm g c = grid_frame c.args.grid _ c.requires.room

rows : (g : Over) (c : Start g) → Within c.args.grid.window c.args.band
rows g c = band_within c.args.grid.window c.args.band c.requires.passed.1

pub row_start-from-requires : goal.row_start-from-requires
row_start-from-requires g c = omega (arith, rows g (goal.at.row_start-from-requires g c).Start)

pub overflow_add-band : goal.overflow_add-band
overflow_add-band g c = let s = (goal.at.overflow_add-band g c).Start in
    record { fits = omega (arith, rows g s, (frm g s).size.height_max) }

pub row_start-end-requires : goal.row_start-end-requires
row_start-end-requires g c = omega (arith, rows g (goal.at.row_start-end-requires g c).Start)

pub slice_bounds-mark-end : goal.slice_bounds-mark-end
slice_bounds-mark-end g c = let s = (goal.at.slice_bounds-mark-end g c).Start in
    part_in _ _ _ (frm g s) (rows g s) _ _ _ c.grid.ensures c.row_start-from.ensures c.row_start-end.ensures

pub mark-requires : goal.mark-requires
mark-requires g c = let s = (goal.at.mark-requires g c).Start in
    (c.requires.passed.0, lent_length _ _ _ (frm g s) (rows g s) _ _ _ c.grid.ensures c.row_start-from.ensures c.row_start-end.ensures)

pub returns : goal.returns
returns g c =
    let s = (goal.at.returns g c).Start in
    let f = g.D.Draw.figure c.args.drawing in
    let bytes : Bytes c.args.raster.now = λ i _. (c.slice_known-1.given i).fits in record {
      value = band_counted _ _ _ (frm g s) (rows g s) _ _ _ c.grid.ensures c.row_start-from.ensures c.row_start-end.ensures f bytes _ c.mark.ensures.value;
      raster_after = band_drawn _ _ _ (frm g s) (rows g s) _ _ _ c.grid.ensures c.row_start-from.ensures c.row_start-end.ensures f bytes _ c.mark.ensures.raster_after;
    }
