-- The borders of the coordinate range, and whole numbers near to fractions, from documents 01 and 02, as statements about the
-- definitions. The proof, by computation, is in proofs/Known.antt. Assumes nothing.
use Rattle.std.specs.Prelude.{ℕ, ◌-◌, ◌≡◌, true, false, ℤ, pos, negsuc}
use Rattle.coordinate.specs.Coordinate.{lowest, highest, out_of_range, apart, same, biased, unbiased, along}
use Rattle.coordinate.specs.Nearest.{floor_div, ceil_div, nearest}
use Rattle.coordinate.specs.declared.axis.Axis.TheVariants.{X, Y}

-- −n, for an n of at least 1
abbrev pub minus : ℕ → ℤ
minus n = negsuc (n - 1)

pub record KnownRange : Type 0 where
  -- a coordinate is from −16384 to 16383
  pub below_lowest : out_of_range (minus 16385) ≡ true
  pub lowest_in : out_of_range (minus 16384) ≡ false
  pub zero_in : out_of_range (pos 0) ≡ false
  pub highest_in : out_of_range (pos 16383) ≡ false
  pub above_highest : out_of_range (pos 16384) ≡ true
  -- the ends of 32 bits
  pub least : out_of_range (minus 2147483648) ≡ true
  pub most : out_of_range (pos 2147483647) ≡ true
  pub lowest_is : lowest ≡ minus 16384
  pub highest_is : highest ≡ pos 16383
  -- how far a coordinate is above the lowest, and back
  pub biased_lowest : biased (minus 16384) ≡ 0
  pub biased_zero : biased (pos 0) ≡ 16384
  pub biased_highest : biased (pos 16383) ≡ 32767
  pub unbiased_lowest : unbiased 0 ≡ minus 16384
  pub unbiased_zero : unbiased 16384 ≡ pos 0
  pub unbiased_highest : unbiased 32767 ≡ pos 16383
  -- two coordinates, either way round
  pub rising : apart (minus 3) (pos 4) ≡ 7
  pub falling : apart (pos 4) (minus 3) ≡ 7
  pub same_three : same (minus 3) (minus 3) ≡ true
  pub below_four : same (pos 3) (pos 4) ≡ false
  pub above_three : same (pos 4) (pos 3) ≡ false
  -- the first along x, the second along y
  pub along_x : along X (pos 1) (pos 2) ≡ pos 1
  pub along_y : along Y (pos 1) (pos 2) ≡ pos 2

pub record KnownNearest : Type 0 where
  -- halves go to the larger, on both sides of 0
  pub half : nearest (pos 1) 2 ≡ pos 1
  pub minus_half : nearest (minus 1) 2 ≡ pos 0
  pub one_and_half : nearest (pos 3) 2 ≡ pos 2
  pub minus_one_and_half : nearest (minus 3) 2 ≡ minus 1
  pub fourths : nearest (pos 10) 4 ≡ pos 3
  pub minus_fourths : nearest (minus 10) 4 ≡ minus 2
  -- a hundredth less and more than a half
  pub less_than_half : nearest (pos 49) 100 ≡ pos 0
  pub more_than_half : nearest (pos 51) 100 ≡ pos 1
  pub minus_less_than_half : nearest (minus 49) 100 ≡ pos 0
  pub minus_more_than_half : nearest (minus 51) 100 ≡ minus 1
  -- thirds
  pub third : nearest (pos 1) 3 ≡ pos 0
  pub two_thirds : nearest (pos 2) 3 ≡ pos 1
  pub minus_third : nearest (minus 1) 3 ≡ pos 0
  pub minus_two_thirds : nearest (minus 2) 3 ≡ minus 1
  pub minus_four_thirds : nearest (minus 4) 3 ≡ minus 1
  -- whole numbers, and 0 / 0, which stands for 0
  pub seven : nearest (pos 7) 1 ≡ pos 7
  pub minus_seven : nearest (minus 7) 1 ≡ minus 7
  pub six_thirds : nearest (pos 6) 3 ≡ pos 2
  pub minus_six_thirds : nearest (minus 6) 3 ≡ minus 2
  pub zero_by_zero : nearest (pos 0) 0 ≡ pos 0
  -- rounded down
  pub down : floor_div (pos 7) 2 ≡ pos 3
  pub down_exact : floor_div (pos 8) 2 ≡ pos 4
  pub minus_down : floor_div (minus 7) 2 ≡ minus 4
  pub minus_down_exact : floor_div (minus 8) 2 ≡ minus 4
  -- rounded up
  pub up_none : ceil_div 0 5 ≡ 0
  pub up_one : ceil_div 1 5 ≡ 1
  pub up_exact : ceil_div 5 5 ≡ 1
  pub up_more : ceil_div 6 5 ≡ 2
