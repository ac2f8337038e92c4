-- The product is that of the definition, and small.
use Prim.Native.Nat.{ℕ, ◌*◌, ◌≤◌}
use mathlib.Core.Path.{◌≡◌, ap}
use native.Mathlib.Omega.{arith}
use Rattle.raster.specs.Raster.{row_bytes}
use Rattle.raster.proofs.Frames.{sized, start_max}
use Rattle.raster.proofs.window.Window.row_start.Goals.{After-row_bytes, Start}
use Rattle.raster.proofs.window.Window.row_start.Goals as goal

module _ (c : After-row_bytes) where
  abbrev s : Start
  s = (goal.at.After-row_bytes c).Start

  start_is : s.args.row * c.row_bytes.result ≡ s.args.row * row_bytes s.args.self.width
  start_is = ap (λ (b : ℕ). s.args.row * b) c.row_bytes.ensures

  small : s.args.row * c.row_bytes.result ≤ 8388608
  small = omega (arith, start_is, start_max s.args.self s.args.row (sized s.args.self s.requires.0) s.requires.1)

pub overflow_mul-result : goal.overflow_mul-result
overflow_mul-result c = record { fits = omega (arith, small c) }
