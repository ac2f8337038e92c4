-- The code's two tests are the definition's.
use mir.Syntax.{w32}
use mir.ValLaws.{to_z-of_z}
use Rattle.coordinate.specs.Coordinate.{out_of_range}
use Rattle.coordinate.proofs.coordinate.Coordinate.out_of_range.Goals as goal

pub returns-then-z-lt-LOWEST : goal.returns-then-z-lt-LOWEST
unfolding out_of_range
returns-then-z-lt-LOWEST c = let e = to_z-of_z w32 c.args.z c.ranges.z in rw (e, (rw e at c.if-z-lt-LOWEST.true))

pub returns-else-z-lt-LOWEST : goal.returns-else-z-lt-LOWEST
unfolding out_of_range
returns-else-z-lt-LOWEST c = let e = to_z-of_z w32 c.args.z c.ranges.z in rw (e, (rw e at c.if-z-lt-LOWEST.false))
