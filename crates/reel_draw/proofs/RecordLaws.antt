-- A record of an accepted file can be handed to every line operation: none of its ends is out of range, so it never meets 1.
use Prim.Native.Nat.{ℕ, suc, ◌+◌, ◌*◌, ◌/◌, ◌≤◌, ◌<◌}
use mathlib.Core.Path.{◌≡◌}
use mathlib.Core.Bool.{false}
use mathlib.Core.List.{List}
use native.Mathlib.Omega.{arith}
use lib.IntN.{ℤ}
use lib.ListN.{length}
use Rattle.counting.proofs.Boolean.{neither_or}
use Rattle.counting.proofs.Counted.{count_most}
use Rattle.raster.specs.Raster.{in_window}
use Rattle.raster.specs.declared.window.Window.{Window}
use Rattle.line.specs.Line.{long, pixel, ends_out}
use Rattle.line.specs.Figure.{line_count}
use Rattle.line.specs.declared.ends.Ends.{Ends}
use Rattle.line.proofs.Pixels.{long_max}
use Rattle.reel.specs.Reel.{coordinates_out, coordinates}
use Rattle.reel.proofs.Records.{coordinates-length, in_list}
use Rattle.reel_draw.specs.Records.{record_count, record_line}

pub record_in : (list : List ℤ) → coordinates_out list ≡ false → (k : ℕ) → k < record_count list → ends_out (record_line list k) ≡ false
unfolding ends_out
record_in list within k l =
    neither_or _ _
    (neither_or _ _ (in_list list within (4 * k) (omega arith)) (in_list list within (4 * k + 1) (omega arith)))
    (neither_or _ _ (in_list list within (4 * k + 2) (omega arith)) (in_list list within (4 * k + 3) (omega arith)))

-- eight bytes make a record
pub records_in_bytes : (s : List ℕ) → record_count (coordinates s) ≡ length s / 8
records_in_bytes s = omega (arith, coordinates-length s)

-- a line whose ends are in range has few pixels
pub line_most : (e : Ends) (w : Window) → ends_out e ≡ false → line_count e w ≤ 32768
unfolding line_count
line_most e w within = let steps = count_most (suc (long e)) (λ i. in_window w (pixel e i)) in omega (arith, long_max e within)
