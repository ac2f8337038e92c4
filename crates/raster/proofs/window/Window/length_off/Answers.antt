-- The row after the last begins at the length of the definition.
use mathlib.Core.Path.{ap}
use mathlib.Core.Bool.{not}
use Prim.Native.Nat.{ℕ}
use lib.Dec.{eqb}
use Rattle.raster.specs.Window.{length_off}
use Rattle.raster.proofs.window.Window.length_off.Goals as goal

pub returns : goal.returns
unfolding length_off
returns c = ap (λ (n : ℕ). not (eqb c.args.length n)) c.row_start.ensures
