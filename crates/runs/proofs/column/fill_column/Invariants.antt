-- At turn i the bits of i rows are set, `bit` is that of the next one, and `fresh` is what the bits grew by.
use Prim.Native.Nat.{◌+◌, ◌*◌}
use mathlib.Core.Path.{◌≡◌}
use Rattle.raster.specs.Bits.{with_bits}
use Rattle.raster.specs.Fresh.{bit_count}
use Rattle.runs.proofs.ColumnBits.{column_bits}
use Rattle.runs.proofs.column.fill_column.Given as goal

abbrev pub invariant-loop : goal.invariant-loop
invariant-loop l =
    (l.bit ≡ (l.row + l.counter) * l.stride + l.column) × (l.raster ≡ with_bits (column_bits l.column l.row l.stride l.counter) l.initial.raster)
    × (bit_count l.raster ≡ bit_count l.initial.raster + l.fresh)
