-- The spot and the strides are the walk's own.
use Rattle.std.proofs.Common.{arith}
use Rattle.line_draw.proofs.Stepping.{walks}
use Rattle.line_draw.proofs.walker.Walker.enter.Goals as goal

pub invariant_of-result : goal.invariant_of-result
invariant_of-result c =
    record {
      walking = walks _ _ _ _ c.args.grid.within c.strides_of-strides.ensures (omega (arith, c.requires.0, c.args.line.traced.long_is)) c.requires.1
          c.spot_of-spot.ensures;
    }
