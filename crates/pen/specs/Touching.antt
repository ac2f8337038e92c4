-- Document 02, 3/13: what a report of the pen is answered with. Assumes nothing.
use Rattle.std.specs.Prelude.{ℕ, Bool, not, ◌||◌, List, [], ◌∷◌, Option, None, Some}
use Rattle.std.specs.Float.Ieee.Scale.{finite}
use Rattle.coordinate.specs.Coordinate.{out_of_range}
use Rattle.coordinate.specs.declared.pixel.Pixel.{Pixel}
use Rattle.refusal.specs.Refusal.{Answer, given, answer, first_met}
use Rattle.pen.specs.Worth.{nearest_to}
use Rattle.pen.specs.declared.report.Point.{Point}
use Rattle.pen.specs.declared.report.Report.{Report}
use Rattle.pen.specs.declared.report.Report.TheVariants.{Touching, Hovering, Lifted}

-- 13: a float is infinite or not a number; `finite` is false for an infinity and a NaN, and true for every other float
unfoldable pub not_finite : Point → Bool
not_finite p = not (finite p.column) || not (finite p.row)

-- 14: a rounded coordinate is out of range
unfoldable pub rounded_out : Point → Bool
rounded_out p = out_of_range (nearest_to p.column) || out_of_range (nearest_to p.row)

-- what a touching pen's point is tested for, in this order
abbrev pub point_conditions : Point → List (ℕ × Bool)
point_conditions p = (13, not_finite p) ∷ (14, rounded_out p) ∷ []

-- the pixel nearest to a point, each coordinate by itself
abbrev pub pixel_of : Point → Pixel
pixel_of p = record { column = nearest_to p.column; row = nearest_to p.row }

-- what a report is answered with: a pixel, none where the pen is not touching, or a refusal
abbrev pub touch_answer : Report → Answer (Option Pixel)
touch_answer (Touching p) = answer (first_met (point_conditions p)) (Some (pixel_of p))
touch_answer (Hovering p) = given None
touch_answer Lifted = given None
