-- A column is worth 1 and a row the bits of a row, each added or taken by the direction.
use Rattle.std.proofs.Common.{◌*◌}
use Rattle.raster.specs.Raster.{row_bytes}
use Rattle.line_draw.proofs.Within.{lawful}
use Rattle.line_draw.proofs.Turns.{OneMore, moves}
use Rattle.line_draw.proofs.stride.strides_of.Goals.{After-stride_of-row}
use Rattle.line_draw.proofs.stride.strides_of.Goals as goal

module _ (c : After-stride_of-row) where
  column : OneMore c.args.line.columns.grows 1 c.stride_of-column.result
  column = record { on_is = c.stride_of-column.ensures.0; back_is = c.stride_of-column.ensures.1 }

  row : OneMore c.args.line.rows.grows (8 * row_bytes c.args.grid.window.width) c.stride_of-row.result
  row = record { on_is = rw c.row_bits.ensures at c.stride_of-row.ensures.0; back_is = rw c.row_bits.ensures at c.stride_of-row.ensures.1 }

pub returns : goal.returns
returns c =
    let made = (goal.at.returns c).After-stride_of-row in
    let a = made.args in
    moves a.line a.grid.window (lawful a.grid.window a.grid.within) _ _ (column made) (row made) _ c.along.ensures c.along-2.ensures
