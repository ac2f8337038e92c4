-- At turn i the bits of i rows are set, `bit` is that of the next one, and `fresh` is what the bits grew by.
use Prim.Native.Nat.{ℕ, ◌+◌, ◌*◌, ◌/◌, ◌<◌}
use mathlib.Core.Path.{◌≡◌, refl, ap, ap₂, ◌∙◌}
use native.Mathlib.Omega.{arith}
use lib.ListN.{length}
use Rattle.raster.specs.Raster.{row_bytes}
use Rattle.raster.specs.Bits.{with_bits, bit_of}
use Rattle.raster.specs.Fresh.{bit_count}
use Rattle.raster.proofs.Frames.{Frame, row_within, raster_max}
use Rattle.raster.proofs.Grids.{grid_in, grid_frame}
use Rattle.raster.proofs.BitLaws.{bits_length}
use Rattle.raster.proofs.Fresh.{fresh_most}
use Rattle.runs.proofs.ColumnBits.{column_bits, column_none, column_on, column-plus}
use Rattle.runs.proofs.column.fill_column.Goals.{After-put_bit-fresh, At-loop, In-loop, Start}
use Rattle.runs.proofs.column.fill_column.Goals as goal

module _ (c : Start) where
  frm : Frame c.args.grid.window (length c.args.raster.now)
  frm = grid_frame c.args.grid _ c.requires.0

pub bit_of-bit-requires : goal.bit_of-bit-requires
bit_of-bit-requires c = (grid_in c.args.grid, c.requires.1, omega (arith, c.requires.2, c.requires.3))

pub loop-init : goal.loop-init
unfolding bit_of
loop-init c = (
  c.bit_of-bit.ensures ∙ omega (arith, ap (λ (b : ℕ). c.args.row * b) c.row_bits-stride.ensures),
  column_none _ _ _ _ (λ i _. (c.type_inv.raster i).fits),
  omega arith,
)

-- the raster at the loop's head is as long as at the start
module _ (c : At-loop) where
  length_at : length c.loop.raster ≡ length c.args.raster.now
  length_at = ap length c.loop.invariant.1 ∙ bits_length _ _

-- the next row's bit is in the raster
module _ (c : In-loop) where
  bit_in : c.loop.bit / 8 < length c.loop.raster
  bit_in =
      let s = (goal.at.In-loop c).Start in
      let b = row_bytes s.args.grid.window.width in
      let r = s.args.row + c.loop.counter in
      let place = ap (λ (n : ℕ). r * n) c.row_bits-stride.ensures in
      let lies = row_within s.args.grid.window _ r (frm s).shape (omega (arith, s.requires.3)) in
      omega (arith, c.loop.invariant.0, place, lies, s.requires.1, length_at (goal.at.In-loop c).At-loop)

pub put_bit-fresh-requires : goal.put_bit-fresh-requires
put_bit-fresh-requires c = (refl, bit_in (goal.at.put_bit-fresh-requires c).In-loop)

-- the bit is set
module _ (c : After-put_bit-fresh) where
  grown : bit_count c.put_bit-fresh.new.raster ≡ bit_count c.args.raster.now + (c.loop.fresh + c.put_bit-fresh.result)
  grown = omega (arith, c.loop.invariant.2, c.put_bit-fresh.ensures.bits_grow)

  put : c.put_bit-fresh.new.raster ≡ with_bits (column_bits c.args.column c.args.row c.row_bits-stride.result (c.loop.counter + 1)) c.args.raster.now
  put = column_on _ _ _ _ c.loop.raster _ c.loop.counter c.loop.bit c.loop.invariant.1 c.loop.invariant.0 c.put_bit-fresh.ensures.raster_after

pub overflow_add-fresh : goal.overflow_add-fresh
overflow_add-fresh c =
    let p = (goal.at.overflow_add-fresh c).After-put_bit-fresh in
    let most = fresh_most c.args.raster.now c.put_bit-fresh.new.raster _ (ap length (put p) ∙ bits_length _ _)
    (raster_max c.args.grid.window _ (frm (goal.at.overflow_add-fresh c).Start)) (grown p) in
    record { fits = omega (arith, most) }

pub overflow_add-bit : goal.overflow_add-bit
overflow_add-bit c =
    let i = (goal.at.overflow_add-bit c).In-loop in
    let s = (goal.at.overflow_add-bit c).Start in
    record { fits = omega (arith, bit_in i, length_at (goal.at.overflow_add-bit c).At-loop, raster_max s.args.grid.window _ (frm s), c.row_bits-stride.ensures, (frm s).size.width_max) }

pub loop-preserved : goal.loop-preserved
loop-preserved c =
    let p = (goal.at.loop-preserved c).After-put_bit-fresh in
    (omega (arith, c.loop.invariant.0), put p, grown p)

pub shape_of-raster : goal.shape_of-raster
shape_of-raster c = length_at (goal.at.shape_of-raster c).At-loop

pub returns : goal.returns
returns c =
    let s = (goal.at.returns c).Start in
    let done : c.loop.counter ≡ s.args.n = omega arith in record {
      raster_after = c.loop.invariant.1
          ∙ ap₂ (λ (b n : ℕ). with_bits (column_bits s.args.column s.args.row b n) s.args.raster.now) c.row_bits-stride.ensures done
          ∙ column-plus s.args.grid.window s.args.column s.args.row s.args.n s.args.raster.now (frm s).shape
          (λ i _. (c.slice_known-1.given i).fits) s.requires.1;
      bits_grow = c.loop.invariant.2;
    }
