-- The known lists hold by computation.
use mathlib.Core.Path.{refl}
use Rattle.counting.specs.Count.{count, each}
use Rattle.refusal.specs.Refusal.{first_met}
use Rattle.coordinate.specs.Coordinate.{out_of_range}
use Rattle.interpolation.specs.Interpolation.{m}
use Rattle.interpolation.specs.Runs.{run_first, run_pixels}
use Rattle.runs.specs.Run.{run_list}
use Rattle.line.specs.Line.{long, short, axis, long_of, across_of, ends_out}
use Rattle.line.specs.Distance.{short_falls, half, pixel_at}
use Rattle.line_list.specs.Runs.{run, runs}
use Rattle.line_list.specs.Listing.{line_list}
use Rattle.line_list.specs.KnownLists.{KnownLists, KnownRefusals}

pub known_lists : KnownLists
unfolding count each first_met out_of_range m run_first run_pixels run_list long short axis long_of across_of ends_out short_falls half pixel_at run runs line_list
known_lists =
    record {
      right_down = (refl, refl);
      rest_left = (refl, refl);
      right_up = (refl, refl);
      left_down = (refl, refl);
      left_up = (refl, refl);
      down_right = (refl, refl);
      down_left = (refl, refl);
      up_right = (refl, refl);
      up_left = (refl, refl);
      one_pixel = (refl, refl);
    }

pub known_refusals : KnownRefusals
unfolding each first_met out_of_range short ends_out
known_refusals =
    record { one_missing = (refl, refl); one_pixel = (refl, refl); no_list = (refl, refl); one_first = (refl, refl); one_with_room = (refl, refl) }
