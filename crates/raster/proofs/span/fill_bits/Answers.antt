-- A part of a byte, whole bytes and a part of a byte are all the bits between.
use Prim.Native.Nat.{◌+◌, ◌-◌, ◌/◌, ◌≤◌}
use mathlib.Core.Path.{◌≡◌, ap, ◌∙◌}
use native.Mathlib.Omega.{arith}
use lib.ListN.{length}
use Rattle.raster.proofs.Over.{Bytes}
use Rattle.raster.proofs.BitLaws.{bits_length, bits_bytes}
use Rattle.raster.proofs.Filling.{filled_short, filled_between, grown_between, filled_long}
use Rattle.raster.proofs.span.fill_bits.Goals.{After-from}
use Rattle.raster.proofs.span.fill_bits.Goals as goal

pub returns-then-first-last-clause-raster_after : goal.returns-then-first-last-clause-raster_after
returns-then-first-last-clause-raster_after c =
    filled_short c.args.raster.now _ c.args.a (c.args.z - 1) c.args.z (omega arith) (omega arith) c.if-first-last.true
    c.or_byte.ensures.raster_after

-- after the first byte the raster is as long as before, and its numbers are bytes
module _ (c : After-from) where
  start_long : length c.or_byte-before.new.raster ≡ length c.args.raster.now
  start_long = ap length c.or_byte-before.ensures.raster_after ∙ bits_length _ _

  start_bytes : Bytes c.or_byte-before.new.raster
  start_bytes = rw c.or_byte-before.ensures.raster_after (bits_bytes _ _)

  within : (c.args.a / 8 + 1 ≤ (c.args.z - 1) / 8) × ((c.args.z - 1) / 8 ≤ length c.or_byte-before.new.raster)
  within = (omega (arith, c.if-first-last.false), omega (arith, start_long))

pub returns-clause-raster_after : goal.returns-clause-raster_after
returns-clause-raster_after c =
    filled_long c.args.raster.now _ _ _ c.args.a (c.args.z - 1) c.args.z (omega arith) (omega (arith, (within c).0))
    c.or_byte-before.ensures.raster_after
    (filled_between c.or_byte-before.new.raster (c.args.a / 8 + 1) ((c.args.z - 1) / 8) (within c).0 (within c).1 (start_bytes c)
    _ c.fill_whole-whole.ensures.filled)
    c.or_byte-after.ensures.raster_after

pub returns-clause-bits_grow : goal.returns-clause-bits_grow
returns-clause-bits_grow c =
    let whole = grown_between c.or_byte-before.new.raster (c.args.a / 8 + 1) ((c.args.z - 1) / 8) (within c).0 (within c).1 (start_bytes c)
    _ _ c.fill_whole-whole.ensures.bits_grow in
    omega (arith, c.or_byte-before.ensures.bits_grow, whole, c.or_byte-after.ensures.bits_grow, c.from.ensures)
