-- The difference from the lowest coordinate is the bias, which is small.
use native.Mathlib.Omega.{arith}
use lib.IntN.{pos}
use mir.Syntax.{w32}
use mir.ValLaws.{to_z-of_z}
use Rattle.coordinate.specs.Coordinate.{biased}
use Rattle.coordinate.proofs.Bias.{biased_lt, biased_fits, minus-lowest}
use Rattle.coordinate.proofs.coordinate.Coordinate.biased.Goals as goal

pub overflow_sub-result : goal.overflow_sub-result
overflow_sub-result c =
    rw (to_z-of_z w32 c.args.z c.ranges.z, minus-lowest c.args.z c.requires) (biased_fits c.args.z c.requires)

pub overflow_cast-result : goal.overflow_cast-result
overflow_cast-result c =
    rw
    (to_z-of_z w32 c.args.z c.ranges.z, minus-lowest c.args.z c.requires, to_z-of_z w32 (pos (biased c.args.z)) (biased_fits c.args.z c.requires))
    (tt, record { fits = omega (arith, biased_lt c.args.z c.requires) })

pub returns : goal.returns
returns c =
    rw
    (to_z-of_z w32 c.args.z c.ranges.z, minus-lowest c.args.z c.requires, to_z-of_z w32 (pos (biased c.args.z)) (biased_fits c.args.z c.requires))
