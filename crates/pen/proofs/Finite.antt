-- std's test of a float is that of the definition: no infinity and no NaN.
use mathlib.Core.Path.{◌≡◌, refl}
use Rattle.std.specs.Float.{float_is_finite}
use lib.Ieee.{Float, nan, inf, fin}
use lib.Ieee.Scale.{finite}

pub finite_same : (x : Float) → float_is_finite x ≡ finite x
unfolding float_is_finite
finite_same nan = refl
finite_same (inf s) = refl
finite_same (fin s m e) = refl
