-- Document 02, 3/13: the exact worth of a float, and the whole number nearest to it. `fin s m e` is m × 2^e, negative where s is
-- true, and 2^e is the fraction up e / down e, one of which is 1. Assumes nothing.
use Rattle.std.specs.Prelude.{ℕ, ◌*◌, Bool, true, false, ℤ, pos, neg_ℤ, Float}
use Rattle.std.specs.Float.{nan, inf, fin}
use Rattle.std.specs.Float.Ieee.{up, down}
use Rattle.coordinate.specs.Nearest.{nearest}

-- ± n
abbrev pub signed : Bool → ℕ → ℤ
signed true n = neg_ℤ (pos n)
signed false n = pos n

-- a finite float is exactly numerator / denominator; 0 / 1 stands for an infinity and a NaN
unfoldable pub numerator : Float → ℤ
numerator nan = pos 0
numerator (inf s) = pos 0
numerator (fin s m e) = signed s (m * up e)

unfoldable pub denominator : Float → ℕ
denominator nan = 1
denominator (inf s) = 1
denominator (fin s m e) = down e

-- the whole number nearest to a finite float, a half to the larger
unfoldable pub nearest_to : Float → ℤ
unfolding numerator denominator
nearest_to x = nearest (numerator x) (denominator x)
