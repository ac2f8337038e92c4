-- The known coordinates and fractions hold by computation.
use mathlib.Core.Path.{refl}
use Rattle.coordinate.specs.Coordinate.{out_of_range, biased, unbiased}
use Rattle.coordinate.specs.Nearest.{floor_div, ceil_div, nearest}
use Rattle.coordinate.specs.Known.{KnownRange, KnownNearest}

pub known_range : KnownRange
unfolding out_of_range biased unbiased
known_range =
    record {
      below_lowest = refl;
      lowest_in = refl;
      zero_in = refl;
      highest_in = refl;
      above_highest = refl;
      least = refl;
      most = refl;
      lowest_is = refl;
      highest_is = refl;
      biased_lowest = refl;
      biased_zero = refl;
      biased_highest = refl;
      unbiased_lowest = refl;
      unbiased_zero = refl;
      unbiased_highest = refl;
      rising = refl;
      falling = refl;
      same_three = refl;
      below_four = refl;
      above_three = refl;
      along_x = refl;
      along_y = refl;
    }

pub known_nearest : KnownNearest
unfolding floor_div ceil_div nearest
known_nearest =
    record {
      half = refl;
      minus_half = refl;
      one_and_half = refl;
      minus_one_and_half = refl;
      fourths = refl;
      minus_fourths = refl;
      less_than_half = refl;
      more_than_half = refl;
      minus_less_than_half = refl;
      minus_more_than_half = refl;
      third = refl;
      two_thirds = refl;
      minus_third = refl;
      minus_two_thirds = refl;
      minus_four_thirds = refl;
      seven = refl;
      minus_seven = refl;
      six_thirds = refl;
      minus_six_thirds = refl;
      zero_by_zero = refl;
      down = refl;
      down_exact = refl;
      minus_down = refl;
      minus_down_exact = refl;
      up_none = refl;
      up_one = refl;
      up_exact = refl;
      up_more = refl;
    }
