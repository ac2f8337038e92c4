-- The known line both ways holds by computation.
use mathlib.Core.Path.{refl}
use Rattle.counting.specs.Count.{any, count, sum, first, each}
use Rattle.coordinate.specs.Coordinate.{out_of_range}
use Rattle.coordinate.specs.Nearest.{floor_div, nearest}
use Rattle.refusal.specs.Refusal.{first_met}
use Rattle.interpolation.specs.Interpolation.{m}
use Rattle.interpolation.specs.Runs.{run_first, run_pixels}
use Rattle.raster.specs.Raster.{worth, bit, byte, over, bit_has, plus, marked, in_window}
use Rattle.raster.specs.Fresh.{fresh_count}
use Rattle.raster.specs.Band.{in_rows}
use Rattle.raster.specs.Window.{size_out, place_out, length_off}
use Rattle.drawing.specs.Band.{band_out}
use Rattle.drawing.specs.Calls.{band_list, after_bands, refused_calls, fresh_calls}
use Rattle.runs.specs.Run.{run_list, in_run, run_count}
use Rattle.runs.specs.Painting.{run_bad, first_bad}
use Rattle.line.specs.Line.{long, short, axis, interpolated, pixel, on_line, long_of, across_of, ends_out}
use Rattle.line.specs.Distance.{short_falls, half, pixel_at}
use Rattle.line.specs.Figure.{line_count}
use Rattle.line_list.specs.Runs.{run, runs}
use Rattle.line_list.specs.Listing.{line_list}
use Rattle.both_ways.specs.Known.{KnownBoth, KnownOrder}

pub known_both : KnownBoth
unfolding any count sum first each out_of_range floor_div nearest first_met m run_first run_pixels worth bit byte over bit_has plus marked in_window fresh_count in_rows size_out place_out length_off band_out band_list after_bands refused_calls fresh_calls run_list in_run run_count run_bad first_bad long short axis interpolated pixel on_line long_of across_of ends_out short_falls half pixel_at line_count run runs line_list
known_both =
    record {
      every_row = (refl, (refl, (refl, refl)));
      painter_answers = refl;
      painter_leaves = refl;
      one_row = (refl, (refl, (refl, refl)));
    }

pub known_order : KnownOrder
unfolding each out_of_range first_met size_out place_out length_off band_list short ends_out
known_order =
    record {
      one = (refl, (refl, (refl, refl)));
      two = (refl, (refl, (refl, refl)));
      three = (refl, (refl, (refl, refl)));
      four = (refl, (refl, (refl, refl)));
      four_second = (refl, (refl, (refl, refl)));
      five = (refl, (refl, (refl, refl)));
    }
