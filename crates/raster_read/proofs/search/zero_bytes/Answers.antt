-- The part that is or'd begins at `a`.
use Prim.Native.Nat.{◌+◌, ◌-◌}
use native.Mathlib.Omega.{arith}
use Rattle.raster_read.proofs.Passing.{zeros_there}
use Rattle.raster_read.proofs.search.zero_bytes.Goals as goal

pub returns-then-any_bits-eq0 : goal.returns-then-any_bits-eq0
returns-then-any_bits-eq0 c =
    (omega arith, zeros_there c.args.s.now c.args.a (c.args.a + 64 - c.args.a) (omega arith) (c.any_bits.ensures c.if-any_bits-eq0.true) c.min.result (omega arith))
