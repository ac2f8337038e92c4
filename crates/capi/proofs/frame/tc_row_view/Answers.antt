-- The view is empty exactly where the row is refused, and else as long as a row.
use native.Mathlib.Omega.{arith}
use Rattle.capi.proofs.RowParts.{place_fits, view_given}
use Rattle.capi.proofs.frame.tc_row_view.Goals as goal

pub overflow_mul-result : goal.overflow_mul-result
overflow_mul-result c = let a = c.args in
    record { fits = omega (arith, place_fits a.window a.raster.now a.row c.row_view-view.result.now c.row_view-view.ensures (λ z. omega arith)) }

pub returns : goal.returns
returns c = let a = c.args in
    let facts = view_given a.window a.raster.now a.row c.row_view-view.result.now c.row_view-view.ensures (λ z. omega arith) in
    record { value = facts.0; view = facts.1 }
