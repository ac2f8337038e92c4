-- The last coordinate is above the highest exactly if the bias and the size pass the number of coordinates.
use mathlib.Core.Path.{◌≡◌, sym, ap, ◌∙◌}
use mathlib.Core.Bool.{true, false}
use Prim.Native.Nat.{ℕ, ◌+◌}
use native.Mathlib.Omega.{arith}
use lib.Dec.{ltb}
use mir.Facts.{to_z-of_z}
use Rattle.coordinate.specs.Coordinate.{out_of_range, biased}
use Rattle.coordinate.proofs.Bias.{biased_lt}
use Rattle.raster.specs.Window.{side_place_out}
use Rattle.raster.proofs.Frames.{side_range, place_test}
use Rattle.raster.proofs.window.side_place_out.Goals.{After-biased}
use Rattle.raster.proofs.window.side_place_out.Goals as goal

pub returns-then-out_of_range : goal.returns-then-out_of_range
unfolding side_place_out
returns-then-out_of_range c = let out : out_of_range c.args.z ≡ true =
    ap out_of_range (sym (to_z-of_z c.ranges.z)) ∙ sym c.out_of_range.ensures ∙ c.if-out_of_range.true in
    rw out

-- what is known after the first test
module _ (c : After-biased) where
  z_in : out_of_range c.args.z ≡ false
  z_in =
      ap out_of_range (sym (to_z-of_z c.ranges.z)) ∙ sym c.out_of_range.ensures ∙ c.if-out_of_range.false

  bias : c.biased.result ≡ biased c.args.z
  bias = c.biased.ensures ∙ ap biased (to_z-of_z c.ranges.z)

pub overflow_add-result : goal.overflow_add-result
overflow_add-result c = record { fits = omega (arith, bias c, biased_lt c.args.z (z_in c), side_range c.args.n c.requires) }

pub returns : goal.returns
returns c = ap (λ (b : ℕ). ltb 32768 (b + c.args.n)) (bias c) ∙ place_test c.args.z c.args.n (z_in c)
