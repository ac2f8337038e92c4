-- The span's bits are set.
use Prim.Native.Nat.{ℕ, ◌+◌, ◌*◌, ◌≤◌, ◌<◌}
use mathlib.Core.Path.{ap, ◌∙◌}
use native.Mathlib.Omega.{arith}
use lib.ListN.{length}
use Rattle.raster.specs.Bits.{with_bits, between}
use Rattle.raster.proofs.Frames.{raster_max}
use Rattle.raster.proofs.Grids.{grid_in, grid_frame}
use Rattle.raster.proofs.BitLaws.{span-plus, span_within}
use Rattle.raster.proofs.span.fill_span.Goals.{After-bit_of-from}
use Rattle.raster.proofs.span.fill_span.Goals as goal

-- the span ends in the raster, which is small
module _ (c : After-bit_of-from) where
  span_in : (c.bit_of-from.result + c.args.n ≤ 8 * length c.args.raster.now) × (length c.args.raster.now ≤ 8388608)
  span_in =
      let f = grid_frame c.args.grid _ c.requires.0 in
      rw c.bit_of-from.ensures
      (span_within c.args.grid.window c.args.column c.args.row c.args.n _ f.shape c.requires.3 c.requires.1, raster_max c.args.grid.window _ f)

pub bit_of-from-requires : goal.bit_of-from-requires
bit_of-from-requires c = let p : c.args.column < c.args.grid.window.width = omega arith in (grid_in c.args.grid, p, c.requires.1)

pub overflow_add-end : goal.overflow_add-end
overflow_add-end c = record { fits = omega (arith, span_in c) }

pub fill_bits-requires : goal.fill_bits-requires
fill_bits-requires c = let wide = (grid_frame c.args.grid _ c.requires.0).size.width_max in
    (omega arith, omega (arith, wide), (span_in (goal.at.fill_bits-requires c).After-bit_of-from).0)

pub returns : goal.returns
returns c = let f = grid_frame c.args.grid _ c.requires.0 in record {
  raster_after = c.fill_bits.ensures.raster_after
      ∙ ap (λ (p : ℕ). with_bits (between p (p + c.args.n)) c.args.raster.now) c.bit_of-from.ensures
      ∙ span-plus c.args.grid.window c.args.column c.args.row c.args.n c.requires.3 c.args.raster.now f.shape.wide;
  bits_grow = c.fill_bits.ensures.bits_grow;
}
