-- A row has few bytes, so the product does not wrap.
use native.Mathlib.Omega.{arith}
use Rattle.raster.proofs.Frames.{sized}
use Rattle.raster.proofs.window.Window.row_bits.Goals as goal

pub overflow_mul-result : goal.overflow_mul-result
overflow_mul-result c = record { fits = omega (arith, c.row_bytes.ensures, (sized c.args.self c.requires).width_max) }
