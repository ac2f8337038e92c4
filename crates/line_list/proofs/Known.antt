-- The lettered lines and the halves hold by computation.
use mathlib.Core.Path.{refl}
use Rattle.counting.specs.Count.{any, count, sum, each}
use Rattle.coordinate.specs.Nearest.{floor_div, nearest}
use Rattle.interpolation.specs.Interpolation.{m}
use Rattle.interpolation.specs.Runs.{run_first, run_pixels}
use Rattle.raster.specs.Raster.{worth, bit, byte, over, bit_has, plus, marked, in_window}
use Rattle.raster.specs.Fresh.{fresh_count}
use Rattle.line.specs.Line.{long, short, axis, interpolated, pixel, on_line, long_of, across_of}
use Rattle.line.specs.Distance.{short_falls, half, distance, pixel_at}
use Rattle.line.specs.Figure.{line_count}
use Rattle.line_list.specs.Runs.{run, runs}
use Rattle.line_list.specs.Known.{Lettered, LetteredFresh, KnownHalves, codes}

pub lettered : Lettered
unfolding any count each m run_first run_pixels worth bit byte over bit_has plus in_window floor_div nearest long short axis interpolated pixel on_line short_falls half distance pixel_at long_of across_of run runs line_count codes
lettered =
    record {
      A = (refl, refl);
      B = refl;
      C = (refl, refl);
      D = refl;
      E = refl;
      F = refl;
      G = (refl, refl);
      H = refl;
      I = refl;
      J = (refl, refl);
      K = refl;
    }

pub lettered_fresh : LetteredFresh
unfolding any count sum worth bit marked fresh_count floor_div nearest long short axis interpolated pixel on_line
lettered_fresh = record { D = refl; E = refl; J = refl; K = refl }

pub known_halves : KnownHalves
unfolding each floor_div nearest long axis interpolated pixel
known_halves =
    record {
      right_down = refl;
      right_up = refl;
      left_down = refl;
      left_up = refl;
      down_right = refl;
      down_left = refl;
      up_right = refl;
      up_left = refl;
      falling = refl;
      rising = refl;
    }
