-- Each return is a case of the definition.
use Prim.Native.Nat.{ℕ, ◌*◌}
use mathlib.Core.Path.{◌≡◌, ap₂, ◌∙◌}
use native.Mathlib.Omega.{arith}
use lib.ListN.{length, take, drop}
use Rattle.refusal.specs.Refusal.{first_met}
use Rattle.refusal.proofs.Handing.{passed}
use Rattle.raster.specs.Raster.{row_bytes}
use Rattle.raster.specs.Window.{frame_conditions}
use Rattle.raster.proofs.Frames.{Frame, frame, window_in, starts_apart, end_within}
use Rattle.raster_read.proofs.Rows.{view_refused, view_out, view_given}
use Rattle.raster_read.proofs.row.row_view.Goals.{In-Ok}
use Rattle.raster_read.proofs.row.row_view.Goals as goal

pub returns-in_default : goal.returns-in_default
returns-in_default c = view_refused c.args.window c.args.raster.now c.args.row c.in_default.field-0 c.in_default.ensures

-- what is known after the check
module _ (c : In-Ok) where
  within : first_met (frame_conditions c.args.window (length c.args.raster.now)) ≡ 0
  within = passed _ _ c.in-Ok.ensures

  frm : Frame c.args.window (length c.args.raster.now)
  frm = frame c.args.window _ within

pub returns-then-window-row : goal.returns-then-window-row
returns-then-window-row c = let a = c.args in
    view_out a.window a.raster.now a.row (within (goal.at.returns-then-window-row c).In-Ok) (omega (arith, c.if-window-row.true))

pub invariant_of-grid : goal.invariant_of-grid
invariant_of-grid c = record { within = window_in _ _ (within (goal.at.invariant_of-grid c).In-Ok) }

pub slice_bounds-result-end-2 : goal.slice_bounds-result-end-2
slice_bounds-result-end-2 c = let a = c.args in
    end_within a.window _ a.row 1 (frm (goal.at.slice_bounds-result-end-2 c).In-Ok).shape (omega (arith, c.if-window-row.false)) _ _ c.row_start-from.ensures c.row_start-end.ensures

pub returns : goal.returns
returns c = let a = c.args in
    let size = starts_apart a.window _ a.row 1 (frm (goal.at.returns c).In-Ok).shape (omega (arith, c.if-window-row.false)) _ _ c.row_start-from.ensures c.row_start-end.ensures in
    let one : 1 * row_bytes a.window.width ≡ row_bytes a.window.width = omega arith in
    ap₂ (λ (n from : ℕ). take n (drop from a.raster.now)) (size ∙ one) c.row_start-from.ensures
    ∙ view_given a.window a.raster.now a.row (within (goal.at.returns c).In-Ok) c.if-window-row.false
