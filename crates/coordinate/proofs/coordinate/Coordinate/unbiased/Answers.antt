-- The sum is a coordinate, so it fits.
use mathlib.Core.Path.{ap, ◌∙◌}
use native.Mathlib.Omega.{arith}
use lib.IntN.{ℤ, pos, ◌+ℤ◌}
use mir.Syntax.{w32}
use mir.Val.{to_z, of_z}
use mir.ValLaws.{to_z-of_z}
use Rattle.coordinate.specs.Coordinate.{lowest, unbiased}
use Rattle.coordinate.proofs.Bias.{unbiased_in, in_range_fits}
use Rattle.coordinate.proofs.coordinate.Coordinate.unbiased.Goals as goal

pub returns : goal.returns
unfolding unbiased
returns c =
    ap (λ (z : ℤ). to_z w32 (of_z w32 (z +ℤ lowest))) (to_z-of_z w32 (pos c.args.n) (record { sfits = omega arith }))
    ∙ to_z-of_z w32 (unbiased c.args.n) (record { sfits = in_range_fits (unbiased c.args.n) (unbiased_in c.args.n c.requires) })
