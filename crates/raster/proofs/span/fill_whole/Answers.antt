-- A byte more has all its bits.
use Prim.Native.Nat.{◌+◌, ◌-◌, ◌≤◌, ◌<◌}
use mathlib.Core.Path.{◌≡◌}
use native.Mathlib.Omega.{arith}
use mir.Syntax.{w8}
use Rattle.std.specs.Int.{count_zeros}
use lib.Count.{ones}
use lib.ListN.{length, get_or, set}
use Rattle.raster.specs.Fresh.{bit_count}
use Rattle.raster.proofs.BitLaws.{bits_bytes}
use Rattle.raster.proofs.Over.{Bytes}
use Rattle.raster.proofs.Growing.{bits_whole_grow, old_most, byte_zeros}
use Rattle.raster.proofs.Filling.{filled_none, filled_on}
use Rattle.raster.proofs.span.fill_whole.Goals.{In-loop-byte}
use Rattle.raster.proofs.span.fill_whole.Goals as goal

pub loop-byte-init : goal.loop-byte-init
loop-byte-init c = (filled_none c.args.bytes.now 0 (λ i _. (c.type_inv.bytes i).fits), omega arith, omega arith)

-- the byte that is filled
module _ (c : In-loop-byte) where
  byte_in : c.loop-byte.byte-index < length c.loop-byte.bytes
  byte_in = omega (arith, c.loop-byte.auto.bytes)

  bytes_in : Bytes c.loop-byte.bytes
  bytes_in = rw c.loop-byte.invariant.0 (bits_bytes _ _)

  few : ones (get_or c.loop-byte.bytes c.loop-byte.byte-index 0) ≤ 8
  few = old_most c.loop-byte.bytes c.loop-byte.byte-index byte_in bytes_in

  filled : bit_count (set c.loop-byte.bytes c.loop-byte.byte-index 255)
      ≡ bit_count c.loop-byte.bytes + (8 - ones (get_or c.loop-byte.bytes c.loop-byte.byte-index 0))
  filled = bits_whole_grow c.loop-byte.bytes c.loop-byte.byte-index byte_in bytes_in

  zeros : count_zeros w8 (get_or c.loop-byte.bytes c.loop-byte.byte-index 0) ≡ 8 - ones (get_or c.loop-byte.bytes c.loop-byte.byte-index 0)
  zeros = byte_zeros _ (bytes_in c.loop-byte.byte-index byte_in)

pub loop-byte-preserved : goal.loop-byte-preserved
loop-byte-preserved c = let p = (goal.at.loop-byte-preserved c).In-loop-byte in (
  filled_on c.args.bytes.now c.loop-byte.bytes 0 c.loop-byte.byte-index (omega arith) (omega arith) c.loop-byte.invariant.0,
  omega (arith, filled p, zeros p, c.loop-byte.invariant.1),
  omega (arith, few p, zeros p, c.loop-byte.invariant.2),
)
