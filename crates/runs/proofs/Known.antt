-- The known run lists hold by computation.
use mathlib.Core.Path.{refl}
use Rattle.counting.specs.Count.{any, count, sum, first}
use Rattle.coordinate.specs.Coordinate.{out_of_range}
use Rattle.refusal.specs.Refusal.{first_met}
use Rattle.raster.specs.Raster.{worth, bit, byte, over, bit_has, plus, marked, in_window}
use Rattle.raster.specs.Fresh.{fresh_count}
use Rattle.raster.specs.Window.{size_out, place_out, length_off}
use Rattle.runs.specs.Run.{in_run, run_count}
use Rattle.runs.specs.Painting.{run_bad, first_bad}
use Rattle.runs.specs.Known.{KnownPainted, KnownBad, KnownOrder}

pub known_painted : KnownPainted
unfolding any count sum first out_of_range first_met worth bit byte over bit_has plus marked in_window fresh_count size_out place_out length_off in_run run_count run_bad first_bad
known_painted =
    record {
      along_x = (refl, refl);
      along_y = (refl, refl);
      overlap = (refl, refl);
      twice = (refl, refl);
      behind = (refl, refl);
      no_runs = (refl, refl);
      over_left = (refl, refl);
      over_right = (refl, refl);
      over_both = (refl, refl);
      above = (refl, refl);
      over_top = (refl, refl);
      over_bottom = (refl, refl);
      right_of = (refl, refl);
    }

pub known_bad : KnownBad
unfolding any count sum first out_of_range first_met worth bit byte over bit_has plus marked in_window fresh_count size_out place_out length_off in_run run_count run_bad first_bad
known_bad =
    record {
      one_pixel = (refl, refl);
      no_pixel = (refl, refl);
      below_none = (refl, refl);
      lowest_first = (refl, refl);
      below_lowest = (refl, refl);
      highest_last = (refl, refl);
      above_highest = (refl, refl);
      lowest_short = (refl, refl);
      short_below = (refl, refl);
      highest_short = (refl, refl);
      short_above = (refl, refl);
      second = (refl, refl);
      last = (refl, refl);
    }

pub known_order : KnownOrder
unfolding any count sum first out_of_range first_met worth bit byte over bit_has plus marked in_window fresh_count size_out place_out length_off in_run run_count run_bad first_bad
known_order =
    record {
      two = (refl, refl);
      three = (refl, refl);
      four = (refl, refl);
      seven = (refl, refl);
      eight = (refl, refl);
      room = (refl, refl);
      one_missing = (refl, refl);
      one_run_more = (refl, refl);
      far = (refl, refl);
    }
