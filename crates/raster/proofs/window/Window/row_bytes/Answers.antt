-- The width is small, so the sum does not wrap.
use native.Mathlib.Omega.{arith}
use Rattle.raster.proofs.Frames.{sized}
use Rattle.raster.proofs.window.Window.row_bytes.Goals as goal

pub overflow_add-result : goal.overflow_add-result
overflow_add-result c = record { fits = omega (arith, (sized c.args.self c.requires).width_max) }
