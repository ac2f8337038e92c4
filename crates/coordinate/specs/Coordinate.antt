-- Document 01, 'Frame, raster, run list': the range of a coordinate, and its distance from the lowest. Assumes nothing.
use Rattle.std.specs.Prelude.{ℕ, Bool, ◌||◌, ◌&&◌, ℤ, pos, neg_ℤ, nat_abs, ◌+ℤ◌, ◌-ℤ◌}
use Rattle.std.specs.Int.Signed.{lt_z, le_z}
use Rattle.coordinate.specs.declared.axis.Axis.{Axis}
use Rattle.coordinate.specs.declared.axis.Axis.TheVariants.{X, Y}

-- a coordinate is from −16384 to 16383
abbrev pub lowest : ℤ
lowest = neg_ℤ (pos 16384)

abbrev pub highest : ℤ
highest = pos 16383

unfoldable pub out_of_range : ℤ → Bool
out_of_range z = lt_z z lowest || lt_z highest z

-- how far apart two coordinates are
abbrev pub apart : ℤ → ℤ → ℕ
apart a b = nat_abs (b -ℤ a)

-- two integers are the same
abbrev pub same : ℤ → ℤ → Bool
same a b = le_z a b && le_z b a

-- how far a coordinate is above the lowest, and the coordinate that is n above it
unfoldable pub biased : ℤ → ℕ
biased z = apart lowest z

unfoldable pub unbiased : ℕ → ℤ
unbiased n = pos n +ℤ lowest

-- the first of two where the axis is x, else the second
abbrev pub along : {A : Type 0} → Axis → A → A → A
along X a b = a
along Y a b = b
