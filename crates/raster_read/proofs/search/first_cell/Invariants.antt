-- Nothing is found while what is passed is unmarked: the rows above, the bytes before and the bits before.
use Prim.Native.Nat.{ℕ, ◌+◌, ◌-◌, ◌*◌, ◌≤◌}
use mathlib.Core.List.{List}
use mathlib.Core.Path.{◌≡◌}
use Rattle.std.specs.Prelude.{Option, None}
use Rattle.raster_read.specs.declared.search.Cell.{Cell}
use Rattle.raster_read.proofs.Passing.{Passed, RowsPassed}
use Rattle.raster_read.proofs.search.first_cell.Given as goal

pub record RowsDone (raster : List ℕ) (bytes width : ℕ) (cell : Option Cell) (row : ℕ) : Type 0 where
  pub nothing : cell ≡ None
  pub passed : RowsPassed raster bytes width row

pub record BytesDone (raster : List ℕ) (bytes width row : ℕ) (cell : Option Cell) (byte : ℕ) : Type 0 where
  pub in_row : byte ≤ bytes
  pub nothing : cell ≡ None
  pub passed : Passed raster bytes width row (byte * 8)

pub record BitsDone (raster : List ℕ) (bytes width row byte : ℕ) (cell : Option Cell) (bit : ℕ) : Type 0 where
  pub nothing : cell ≡ None
  pub passed : Passed raster bytes width row (byte * 8 + bit)

abbrev pub invariant-loop-bit : goal.invariant-loop-bit
invariant-loop-bit l = BitsDone l.raster l.bytes l.width l.row l.byte l.cell l.bit

abbrev pub invariant-loop-byte : goal.invariant-loop-byte
invariant-loop-byte l = BytesDone l.raster l.bytes l.width l.row l.cell l.byte

abbrev pub decreases-loop-byte : goal.decreases-loop-byte
decreases-loop-byte l = l.bytes - l.byte

abbrev pub invariant-rows : goal.invariant-rows
invariant-rows l = RowsDone l.raster l.bytes l.width l.cell l.row
