-- The known bands and drawings hold by computation.
use mathlib.Core.Path.{refl}
use Rattle.counting.specs.Count.{any, count, sum, each}
use Rattle.refusal.specs.Refusal.{first_met}
use Rattle.coordinate.specs.Coordinate.{out_of_range}
use Rattle.raster.specs.Raster.{worth, bit, byte, over, bit_has, plus, marked}
use Rattle.raster.specs.Fresh.{fresh_count}
use Rattle.raster.specs.Band.{in_rows}
use Rattle.raster.specs.Window.{size_out, place_out, length_off}
use Rattle.drawing.specs.Band.{band_out}
use Rattle.drawing.specs.Calls.{in_bands, times_in, band_list, after_bands, refused_calls, fresh_calls, count_calls}
use Rattle.drawing.specs.Known.{KnownRefused, KnownRows, KnownOrder, KnownDrawn}

pub known_refused : KnownRefused
unfolding band_out
known_refused =
    record {
      no_rows = refl;
      first_row = refl;
      last_row = refl;
      all_rows = refl;
      row_too_many = refl;
      below = refl;
      far_first = refl;
      far_both = refl;
    }

pub known_rows : KnownRows
unfolding each in_rows band_out in_bands times_in band_list
known_rows = record { apart = refl; refused_ones = refl; times = refl; listed = refl }

pub known_order : KnownOrder
unfolding first_met out_of_range size_out place_out length_off band_out plus
known_order =
    record {
      one = refl;
      two = refl;
      three = refl;
      four = refl;
      six = refl;
      kept = refl;
      whole_one = refl;
      whole_four = refl;
      whole_kept = refl;
    }

pub known_drawn : KnownDrawn
unfolding any count sum first_met out_of_range size_out place_out length_off in_rows worth bit byte over bit_has plus marked fresh_count band_out refused_calls fresh_calls count_calls after_bands
known_drawn =
    record { whole = refl; whole_left = refl; band = refl; band_left = refl; calls = refl; calls_count = refl; calls_left = refl; twice = refl }
