-- Known reports and worths, the floats by their bits, as statements about the definitions; their proof, by computation, is in
-- proofs/Known.antt. Assumes nothing.
use Rattle.std.specs.Prelude.{ℕ, ◌-◌, ◌*◌, ◌^◌, ◌≡◌, ℤ, pos, negsuc, ◌*ℤ◌, Option, None, Some}
use Rattle.std.specs.Float.{binary32}
use Rattle.std.specs.Float.Ieee.{of_bits}
use Rattle.coordinate.specs.declared.pixel.Pixel.{Pixel}
use Rattle.refusal.specs.Refusal.{Answer, given, refused}
use Rattle.pen.specs.Worth.{numerator, denominator}
use Rattle.pen.specs.Touching.{touch_answer}
use Rattle.pen.specs.declared.report.Point.{Point}
use Rattle.pen.specs.declared.report.Report.TheVariants.{Touching, Hovering, Lifted}

-- −n
abbrev minus : ℕ → ℤ
minus n = negsuc (n - 1)

unfoldable pub point : ℕ → ℕ → Point
point column row = record { column = of_bits binary32 column; row = of_bits binary32 row }

abbrev pub pixel : ℤ → ℤ → Answer (Option Pixel)
pixel column row = given (Some (record { column = column; row = row }))

-- a touching pen with these bits as its column, 2.0 as its row, and the other way round
abbrev pub column : ℕ → Answer (Option Pixel)
column bits = touch_answer (Touching (point bits 0x4000_0000))

abbrev pub row : ℕ → Answer (Option Pixel)
row bits = touch_answer (Touching (point 0x4000_0000 bits))

-- what a float gives in either place
pub record Gives (bits : ℕ) (n : ℤ) : Type 0 where
  pub as_column : column bits ≡ pixel n (pos 2)
  pub as_row : row bits ≡ pixel (pos 2) n

pub record IsRefused (bits number : ℕ) : Type 0 where
  pub as_column : column bits ≡ refused number
  pub as_row : row bits ≡ refused number

pub record KnownReports : Type 0 where
  -- the request's own: 0.49999997, −0.5, −0; and 0
  pub below_half : Gives 0x3eff_ffff (pos 0)
  pub minus_half : Gives 0xbf00_0000 (pos 0)
  pub minus-zero : Gives 0x8000_0000 (pos 0)
  pub plus-zero : Gives 0x0000_0000 (pos 0)
  -- 0.5, and the first float below −0.5
  pub half : Gives 0x3f00_0000 (pos 1)
  pub past_minus_half : Gives 0xbf00_0001 (minus 1)
  -- 1.5 and −1.5
  pub one_and_half : Gives 0x3fc0_0000 (pos 2)
  pub minus-one_and_half : Gives 0xbfc0_0000 (minus 1)
  -- the last float below 16383.5, and 16383.5; −16384.5, and the first float below it
  pub highest : Gives 0x467f_fdff (pos 16383)
  pub past_highest : IsRefused 0x467f_fe00 14
  pub lowest : Gives 0xc680_0100 (minus 16384)
  pub past_lowest : IsRefused 0xc680_0101 14
  -- the largest float and its negative
  pub largest : IsRefused 0x7f7f_ffff 14
  pub minus_largest : IsRefused 0xff7f_ffff 14
  -- the smallest float above 0, the largest subnormal, the smallest normal, and their negatives
  pub smallest : Gives 0x0000_0001 (pos 0)
  pub minus_smallest : Gives 0x8000_0001 (pos 0)
  pub subnormal : Gives 0x007f_ffff (pos 0)
  pub minus_subnormal : Gives 0x807f_ffff (pos 0)
  pub normal : Gives 0x0080_0000 (pos 0)
  pub minus_normal : Gives 0x8080_0000 (pos 0)
  -- infinities and NaNs, quiet and signalling
  pub infinite : IsRefused 0x7f80_0000 13
  pub minus_infinite : IsRefused 0xff80_0000 13
  pub nan : IsRefused 0x7fc0_0000 13
  pub minus_nan : IsRefused 0xffc0_0000 13
  pub signalling_nan : IsRefused 0x7f80_0001 13
  -- 13 of either float comes before 14 of the other
  pub out_then_nan : touch_answer (Touching (point 0x467f_fe00 0x7fc0_0000)) ≡ refused 13
  pub nan_then_out : touch_answer (Touching (point 0x7fc0_0000 0x467f_fe00)) ≡ refused 13
  -- a pen that is not touching is not refused
  pub hovering : touch_answer (Hovering (point 0x3f00_0000 0x3f00_0000)) ≡ given None
  pub hovering_nan : touch_answer (Hovering (point 0x7fc0_0000 0x7f80_0000)) ≡ given None
  pub hovering_out : touch_answer (Hovering (point 0x467f_fe00 0xc680_0101)) ≡ given None
  pub lifted : touch_answer Lifted ≡ given None

-- the float with these bits is exactly n / d
abbrev pub Worth : ℕ → ℤ → ℕ → Type 0
Worth bits n d = pos d *ℤ numerator (of_bits binary32 bits) ≡ n *ℤ pos (denominator (of_bits binary32 bits))

pub record KnownWorths : Type 0 where
  -- 3 / 4 and −3 / 4, 16383 + 1/2, 2^25
  pub three_fourths : Worth 0x3f40_0000 (pos 3) 4
  pub minus_three_fourths : Worth 0xbf40_0000 (minus 3) 4
  pub past_highest : Worth 0x467f_fe00 (pos 32767) 2
  pub large : Worth 0x4c00_0000 (pos 33554432) 1
  -- zeros
  pub plus-zero : Worth 0x0000_0000 (pos 0) 1
  pub minus-zero : Worth 0x8000_0000 (pos 0) 1
  -- the smallest float above 0, which is 2^−149, and the largest, which is (2^24 − 1) × 2^104
  pub smallest : Worth 0x0000_0001 (pos 1) (2 ^ 149)
  pub largest : Worth 0x7f7f_ffff (pos (16777215 * 2 ^ 104)) 1
