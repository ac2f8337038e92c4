-- While the bits so far are 0, so is each byte so far.
use mathlib.Core.Path.{◌≡◌}
use Rattle.raster_read.specs.Search.{Zeros}
use Rattle.raster_read.proofs.search.any_bits.Given as goal

abbrev pub invariant-loop-byte : goal.invariant-loop-byte
invariant-loop-byte l = l.bits ≡ 0 → Zeros l.bytes 0 l.byte-index
