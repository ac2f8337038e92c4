-- The bytes before the one that is filled have all their bits; `fresh` is what the bits grew by, and it is small.
use Prim.Native.Nat.{◌+◌, ◌*◌, ◌≤◌}
use mathlib.Core.Path.{◌≡◌}
use Rattle.raster.specs.Bits.{with_bits, between}
use Rattle.raster.specs.Fresh.{bit_count}
use Rattle.raster.proofs.span.fill_whole.Given as goal

abbrev pub invariant-loop-byte : goal.invariant-loop-byte
invariant-loop-byte l = (l.bytes ≡ with_bits (between 0 (8 * l.byte-index)) l.initial.bytes)
    × (bit_count l.bytes ≡ bit_count l.initial.bytes + l.fresh) × (l.fresh ≤ 8 * l.byte-index)
