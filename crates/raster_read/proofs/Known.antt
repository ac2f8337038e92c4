-- The known rows and searches hold by computation.
use mathlib.Core.Path.{refl}
use Rattle.counting.specs.Count.{any, first}
use Rattle.refusal.specs.Refusal.{first_met}
use Rattle.coordinate.specs.Coordinate.{out_of_range}
use Rattle.raster.specs.Raster.{worth, bit, marked}
use Rattle.raster.specs.Window.{side_out, size_out, side_place_out, place_out, length_off}
use Rattle.raster_read.specs.Row.{row_view}
use Rattle.raster_read.specs.Search.{first_marked}
use Rattle.raster_read.specs.Known.{KnownRows, KnownSearches}

pub known_rows : KnownRows
unfolding first_met out_of_range side_out size_out side_place_out place_out length_off row_view
known_rows =
    record {
      first = refl;
      second = refl;
      third = refl;
      far = refl;
      longer = refl;
      two = refl;
      three = refl;
      four = refl;
      six = refl;
      lawful = refl;
    }

pub known_searches : KnownSearches
unfolding any first first_met out_of_range side_out size_out side_place_out place_out length_off worth bit marked first_marked
known_searches =
    record {
      corner = refl;
      end_of_row = refl;
      past_padding = refl;
      last = refl;
      padding_alone = refl;
      two = refl;
      three = refl;
      four = refl;
    }
