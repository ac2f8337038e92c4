-- Document 02, 3/13: which pixel a touching pen is answered with, over whole numbers, and which refusal; the proofs are in
-- proofs/PenFacts.antt. Assumes nothing.
use Rattle.std.specs.Prelude.{◌*◌, ◌≤◌, ◌≡◌, true, false, ℤ, pos, ◌*ℤ◌, Float, None, Some}
use Rattle.std.specs.Float.Ieee.Scale.{finite}
use Rattle.coordinate.specs.Coordinate.{apart, out_of_range}
use Rattle.coordinate.specs.Nearest.{WithinHalf}
use Rattle.coordinate.specs.declared.pixel.Pixel.{Pixel}
use Rattle.refusal.specs.Refusal.{given, refused}
use Rattle.pen.specs.Worth.{numerator, denominator}
use Rattle.pen.specs.Touching.{touch_answer}
use Rattle.pen.specs.declared.report.Point.{Point}
use Rattle.pen.specs.declared.report.Report.TheVariants.{Touching, Hovering, Lifted}

-- n is a coordinate with n − 1/2 ≤ x < n + 1/2, x finite
pub record RoundsTo (x : Float) (n : ℤ) : Type 0 where
  pub is_finite : finite x ≡ true
  pub in_range : out_of_range n ≡ false
  pub within : WithinHalf (numerator x) (denominator x) n

-- at most half a pixel apart
pub record HalfPixel (x : Float) (n : ℤ) : Type 0 where
  pub half_pixel : 2 * apart (pos (denominator x) *ℤ n) (numerator x) ≤ denominator x

pub record PixelFacts (p : Point) (q : Pixel) : Type 0 where
  -- where the answer is a pixel, both floats round to it, and neither is further off than half a pixel
  pub rounds : touch_answer (Touching p) ≡ given (Some q) → RoundsTo p.column q.column × RoundsTo p.row q.row
  pub near : touch_answer (Touching p) ≡ given (Some q) → HalfPixel p.column q.column × HalfPixel p.row q.row
  -- and a pixel that both floats round to is the answer
  pub only : RoundsTo p.column q.column → RoundsTo p.row q.row → touch_answer (Touching p) ≡ given (Some q)

-- 13 where either float is not finite; 14 where both are and no pixel lies so; a pen that does not touch is never refused
pub record RefusalFacts (p : Point) : Type 0 where
  pub column_thirteen : finite p.column ≡ false → touch_answer (Touching p) ≡ refused 13
  pub row_thirteen : finite p.row ≡ false → touch_answer (Touching p) ≡ refused 13
  pub fourteen : finite p.column ≡ true → finite p.row ≡ true
      → ((q : Pixel) → RoundsTo p.column q.column → RoundsTo p.row q.row → ⊥) → touch_answer (Touching p) ≡ refused 14
  pub hovering : touch_answer (Hovering p) ≡ given None
  pub lifted : touch_answer Lifted ≡ given None
