-- The known frames hold by computation.
use mathlib.Core.Path.{refl}
use Rattle.counting.specs.Count.{any, count, sum, each}
use Rattle.coordinate.specs.Coordinate.{out_of_range}
use Rattle.coordinate.specs.Nearest.{floor_div, nearest}
use Rattle.refusal.specs.Refusal.{first_met}
use Rattle.raster.specs.Raster.{worth, bit, byte, over, bit_has, plus, marked, in_window}
use Rattle.raster.specs.Fresh.{fresh_count}
use Rattle.raster.specs.Band.{in_rows}
use Rattle.raster.specs.Window.{size_out, place_out, length_off}
use Rattle.drawing.specs.Band.{band_out}
use Rattle.line.specs.Line.{long, axis, interpolated, pixel, on_line}
use Rattle.line.specs.Figure.{line_count}
use Rattle.reel.specs.Numbers.{number_at}
use Rattle.reel.specs.Reel.{falls, coordinates_out, position, frames, table, coordinates}
use Rattle.reel.specs.Reading.{lacks_letters, file_out, table_out}
use Rattle.reel_draw.specs.Known.{KnownRefused, KnownDrawn}

pub known_refused : KnownRefused
unfolding any each first_met out_of_range size_out place_out length_off band_out plus number_at falls coordinates_out position frames table coordinates lacks_letters file_out table_out
known_refused =
    record {
      two = record { answers = refl; leaves = refl };
      three = record { answers = refl; leaves = refl };
      four = record { answers = refl; leaves = refl };
      six = record { answers = refl; leaves = refl };
      ten = record { answers = refl; leaves = refl };
      eleven = record { answers = refl; leaves = refl };
      twelve = record { answers = refl; leaves = refl };
      two_alone = record { answers = refl; leaves = refl };
      three_alone = record { answers = refl; leaves = refl };
      four_alone = record { answers = refl; leaves = refl };
      six_alone = record { answers = refl; leaves = refl };
      ten_alone = record { answers = refl; leaves = refl };
      eleven_alone = record { answers = refl; leaves = refl };
      no_frame = refl;
    }

pub known_drawn : KnownDrawn
unfolding any count sum each out_of_range floor_div nearest first_met worth bit byte over bit_has plus marked in_window fresh_count in_rows size_out place_out length_off band_out long axis interpolated pixel on_line line_count number_at falls coordinates_out position frames table coordinates lacks_letters file_out table_out
known_drawn =
    record {
      whole = refl;
      whole_left = refl;
      again = refl;
      again_left = refl;
      marked = refl;
      marked_left = refl;
      band = refl;
      band_left = refl;
      last_row = refl;
      last_row_left = refl;
      empty = refl;
      empty_left = refl;
      third = refl;
      third_left = refl;
      fourth = refl;
      fourth_left = refl;
      far = refl;
    }
