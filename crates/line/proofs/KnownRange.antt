-- The known range holds by computation.
use mathlib.Core.Path.{refl}
use Rattle.coordinate.specs.Coordinate.{out_of_range}
use Rattle.refusal.specs.Refusal.{first_met}
use Rattle.raster.specs.Window.{size_out, place_out, length_off}
use Rattle.line.specs.Line.{ends_out}
use Rattle.line.specs.KnownRange.{KnownRange}

pub known_range : KnownRange
unfolding out_of_range first_met size_out place_out length_off ends_out
known_range = record { first_column = refl; first_row = refl; second_column = refl; second_row = refl }
