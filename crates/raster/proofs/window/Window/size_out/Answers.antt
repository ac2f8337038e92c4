-- Both sides are tested.
use mathlib.Core.Path.{ap₂}
use mathlib.Core.Bool.{◌||◌}
use Rattle.raster.specs.Window.{size_out}
use Rattle.raster.proofs.window.Window.size_out.Goals as goal

pub returns : goal.returns
unfolding size_out
returns c = ap₂ ◌||◌ c.side_out.ensures c.side_out-2.ensures
