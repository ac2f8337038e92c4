-- Both sides compute to the same.
use mathlib.Core.Path.{refl}
use lib.Ieee.{of_bits}
use Rattle.coordinate.specs.Coordinate.{out_of_range}
use Rattle.coordinate.specs.Nearest.{floor_div, nearest}
use Rattle.refusal.specs.Refusal.{first_met}
use Rattle.pen.specs.Worth.{numerator, denominator, nearest_to}
use Rattle.pen.specs.Touching.{not_finite, rounded_out}
use Rattle.pen.specs.Known.{point, KnownReports, KnownWorths}

pub known_reports : KnownReports
unfolding of_bits out_of_range floor_div nearest first_met numerator denominator nearest_to not_finite rounded_out point
known_reports =
    record {
      below_half = record { as_column = refl; as_row = refl };
      minus_half = record { as_column = refl; as_row = refl };
      minus-zero = record { as_column = refl; as_row = refl };
      plus-zero = record { as_column = refl; as_row = refl };
      half = record { as_column = refl; as_row = refl };
      past_minus_half = record { as_column = refl; as_row = refl };
      one_and_half = record { as_column = refl; as_row = refl };
      minus-one_and_half = record { as_column = refl; as_row = refl };
      highest = record { as_column = refl; as_row = refl };
      past_highest = record { as_column = refl; as_row = refl };
      lowest = record { as_column = refl; as_row = refl };
      past_lowest = record { as_column = refl; as_row = refl };
      largest = record { as_column = refl; as_row = refl };
      minus_largest = record { as_column = refl; as_row = refl };
      smallest = record { as_column = refl; as_row = refl };
      minus_smallest = record { as_column = refl; as_row = refl };
      subnormal = record { as_column = refl; as_row = refl };
      minus_subnormal = record { as_column = refl; as_row = refl };
      normal = record { as_column = refl; as_row = refl };
      minus_normal = record { as_column = refl; as_row = refl };
      infinite = record { as_column = refl; as_row = refl };
      minus_infinite = record { as_column = refl; as_row = refl };
      nan = record { as_column = refl; as_row = refl };
      minus_nan = record { as_column = refl; as_row = refl };
      signalling_nan = record { as_column = refl; as_row = refl };
      out_then_nan = refl;
      nan_then_out = refl;
      hovering = refl;
      hovering_nan = refl;
      hovering_out = refl;
      lifted = refl;
    }

pub known_worths : KnownWorths
unfolding of_bits numerator denominator
known_worths =
    record {
      three_fourths = refl;
      minus_three_fourths = refl;
      past_highest = refl;
      large = refl;
      plus-zero = refl;
      minus-zero = refl;
      smallest = refl;
      largest = refl;
    }
