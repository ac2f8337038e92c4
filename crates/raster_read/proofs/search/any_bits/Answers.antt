-- An or is 0 only where both sides are.
use native.Mathlib.Omega.{arith}
use Rattle.raster_read.proofs.Passing.{zeros_on}
use Rattle.raster_read.proofs.search.any_bits.Goals as goal

pub loop-byte-preserved : goal.loop-byte-preserved
loop-byte-preserved c e i l m =
    zeros_on c.args.bytes.now 0 c.loop-byte.byte-index c.loop-byte.bits c.loop-byte.invariant e i l (omega arith)
