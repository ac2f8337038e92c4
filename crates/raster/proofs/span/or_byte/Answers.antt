-- A byte or'd in sets its bits, and its count grows by the fresh ones.
use Rattle.raster.proofs.Over.{Bytes}
use Rattle.raster.proofs.BitLaws.{bits_or}
use Rattle.raster.proofs.Growing.{bits_or_grow, changed_most}
use Rattle.raster.proofs.span.or_byte.Goals as goal

pub returns : goal.returns
returns c = let a = c.args in
    let bytes : Bytes a.raster.now = λ i _. (c.slice_known-1.given i).fits in record {
      upper_bound = changed_most a.raster.now a.i c.requires bytes a.bits c.ranges.bits.fits;
      raster_after = bits_or a.raster.now a.i a.bits c.requires c.ranges.bits.fits bytes;
      bits_grow = bits_or_grow a.raster.now a.i c.requires bytes a.bits c.ranges.bits.fits;
    }
