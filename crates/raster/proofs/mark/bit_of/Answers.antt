-- The product is that of the definition, and small.
use mathlib.Core.Path.{ap}
use Prim.Native.Nat.{ℕ, ◌+◌, ◌*◌, ◌≤◌}
use native.Mathlib.Omega.{arith}
use native.Mathlib.Nat.{mul-le-mul}
use Rattle.raster.specs.Bits.{bit_of}
use Rattle.raster.proofs.Frames.{sized}
use Rattle.raster.proofs.mark.bit_of.Goals.{After-row_bits}
use Rattle.raster.proofs.mark.bit_of.Goals as goal

module _ (c : After-row_bits) where
  -- a pixel's place is below 8192, and so many rows have few bits
  rows_bits : (n : ℕ) → n ≤ 8192 → n * c.row_bits.result ≤ 67108864
  rows_bits n l =
      let z = sized c.args.window c.requires.0 in
      mul-le-mul {n₁ = n} {m₁ = c.row_bits.result} {n₂ = 8192} {m₂ = 8192} l (omega (arith, z.width_max, c.row_bits.ensures))

  -- of the column too, so that a program with the two exchanged is refused for its bit and not for its product
  small : let a = c.args in (a.row * c.row_bits.result ≤ 67108864) × (a.column * c.row_bits.result ≤ 67108864) × (a.row ≤ 8192) × (a.column ≤ 8192)
  small =
      let z = sized c.args.window c.requires.0 in
      let y : c.args.row ≤ 8192 = omega (arith, z.height_max, c.requires.2) in
      let x : c.args.column ≤ 8192 = omega (arith, z.width_max, c.requires.1) in
      (rows_bits c.args.row y, rows_bits c.args.column x, y, x)

pub overflow_mul-result : goal.overflow_mul-result
overflow_mul-result c = record { fits = omega (arith, small c) }

pub overflow_add-result : goal.overflow_add-result
overflow_add-result c = record { fits = omega (arith, small c) }

pub returns : goal.returns
unfolding bit_of
returns c = let a = c.args in ap (λ (b : ℕ). a.row * b + a.column) c.row_bits.ensures
