-- The known windows and rasters hold by computation.
use mathlib.Core.Path.{refl}
use Rattle.counting.specs.Count.{count, sum, each}
use Rattle.refusal.specs.Refusal.{first_met}
use Rattle.coordinate.specs.Coordinate.{out_of_range}
use Rattle.raster.specs.Raster.{worth, bit, byte, over, bit_has, plus, marked, in_window}
use Rattle.raster.specs.Fresh.{marked_count, fresh_count}
use Rattle.raster.specs.Band.{in_rows}
use Rattle.raster.specs.Window.{side_out, size_out, side_place_out, place_out, length_off}
use Rattle.raster.specs.Known.{KnownSizes, KnownPlaces, KnownLengths, KnownBits, KnownPlus}

pub known_sizes : KnownSizes
unfolding first_met out_of_range side_out size_out side_place_out place_out
known_sizes =
    record {
      smallest = refl;
      widest = refl;
      highest = refl;
      no_width = refl;
      no_height = refl;
      too_wide = refl;
      too_high = refl;
      far_too_wide = refl;
    }

pub known_places : KnownPlaces
unfolding first_met out_of_range side_out size_out side_place_out place_out
known_places =
    record {
      left_first = refl;
      left_below = refl;
      top_first = refl;
      top_below = refl;
      left_last = refl;
      left_above = refl;
      top_last = refl;
      top_above = refl;
      last_column = refl;
      column_above = refl;
      last_row = refl;
      row_above = refl;
      size_first = refl;
      made = refl;
    }

pub known_lengths : KnownLengths
unfolding first_met out_of_range side_out size_out side_place_out place_out length_off each
known_lengths =
    record {
      row = refl;
      whole = refl;
      shorter = refl;
      longer = refl;
      empty = refl;
      largest = refl;
      place_first = refl;
      size_first = refl;
    }

pub known_bits : KnownBits
unfolding each worth bit marked in_window
known_bits =
    record {
      first_row = refl;
      second_row = refl;
      padding = refl;
      inside = (refl, refl);
      left_of = refl;
      right_of = refl;
      above = refl;
      below = refl;
    }

pub known_plus : KnownPlus
unfolding each count sum worth bit byte over bit_has plus marked marked_count fresh_count in_rows
known_plus =
    record {
      three_more = refl;
      all_more = refl;
      marked_before = refl;
      fresh = refl;
      fresh_all = refl;
      marked_after = refl;
      rows = refl;
    }
