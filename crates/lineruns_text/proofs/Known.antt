-- The known inputs hold by computation.
use mathlib.Core.Path.{refl}
use Rattle.counting.specs.Count.{count, each}
use Rattle.coordinate.specs.Coordinate.{out_of_range}
use Rattle.refusal.specs.Refusal.{first_met}
use Rattle.interpolation.specs.Runs.{run_first, run_pixels}
use Rattle.line.specs.Line.{ends_out, short, axis}
use Rattle.line_list.specs.Runs.{runs}
use Rattle.lineruns_text.specs.Reading.{number, line_of}
use Rattle.lineruns_text.specs.Writing.{printed}
use Rattle.lineruns_text.specs.Known.{KnownWords, KnownInputs, KnownLists, KnownRefusals}

pub known_words : KnownWords
unfolding number
known_words =
    record {
      plain = refl;
      below_zero = refl;
      minus_zero = refl;
      leading_zeros = refl;
      six_digits = refl;
      minus_and_six = refl;
      seven_digits = refl;
      minus_and_seven = refl;
      empty = refl;
      minus_alone = refl;
      two_minuses = refl;
      minus_behind = refl;
      plus = refl;
      letter = refl;
      slash = refl;
      colon = refl;
    }

pub known_inputs : KnownInputs
unfolding line_of
known_inputs =
    record {
      newline = refl;
      no_newline = refl;
      signs = refl;
      longest = refl;
      empty = refl;
      newline_alone = refl;
      two_newlines = refl;
      text_after = refl;
      carriage_return = refl;
      nul = refl;
      tab = refl;
      two_blanks = refl;
      leading_blank = refl;
      trailing_blank = refl;
      three_numbers = refl;
      five_numbers = refl;
      of_64_bytes = refl;
      of_65_bytes = refl;
    }

pub known_lists : KnownLists
unfolding printed first_met ends_out out_of_range short axis runs each count run_first run_pixels
known_lists = record { A = refl; E = refl; G = refl; H = refl; five_lines = refl; I = refl; highest = refl; lowest = refl }

pub known_refusals : KnownRefusals
unfolding printed first_met ends_out out_of_range short
known_refusals =
    record {
      no_line = refl;
      nothing = refl;
      nine_before_one = refl;
      too_high = refl;
      too_low = refl;
      one_before_five = refl;
      runs_5001 = refl;
      runs_5000 = refl;
    }
