-- The code's two tests are the definition's.
use borrow.Author.Tests.{lt-ltb, le-ltb}
use Rattle.raster.specs.Window.{side_out}
use Rattle.raster.proofs.window.side_out.Goals as goal

pub returns-then-n-lt-MIN_SIDE : goal.returns-then-n-lt-MIN_SIDE
unfolding side_out
returns-then-n-lt-MIN_SIDE c = rw (lt-ltb c.args.n 1 c.if-n-lt-MIN_SIDE.true)

pub returns-else-n-lt-MIN_SIDE : goal.returns-else-n-lt-MIN_SIDE
unfolding side_out
returns-else-n-lt-MIN_SIDE c = rw (le-ltb c.args.n 1 c.if-n-lt-MIN_SIDE.false)
