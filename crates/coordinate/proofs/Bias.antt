-- A coordinate in range is its bias less 16384, and the bias is below 32768; the two forms determine each other.
use mathlib.Core.Path.{◌≡◌, refl}
use mathlib.Core.Bool.{false}
use Prim.Native.Nat.{ℕ, ◌+◌, ◌-◌, ◌≤◌, ◌<◌, ◌^◌}
use native.Mathlib.Omega.{arith}
use lib.IntN.{ℤ, pos, ◌+ℤ◌, ◌-ℤ◌}
use lib.Signed.{lt_z, mag}
use mir.Syntax.{w32}
use mir.Val.{SFits}
use Rattle.counting.proofs.Boolean.{or_neither, neither_or}
use Rattle.coordinate.specs.Coordinate.{lowest, highest, out_of_range, biased, unbiased}
use Rattle.coordinate.proofs.Difference.{Diff, above, below, diff_parts, diff_move, diff_eq, diff_same, diff_pos, diff_add, diff_plus, diff_minus, diff_apart, diff_nlt, diff_mag}

diff_lowest : Diff lowest 0 16384
diff_lowest = refl

diff_highest : Diff highest 16383 0
diff_highest = refl

-- the range in natural numbers
pub in_range : (z : ℤ) (a b : ℕ) → Diff z a b → out_of_range z ≡ false → (b ≤ a + 16384) × (a ≤ b + 16383)
unfolding out_of_range
in_range z a b d e =
    let p = or_neither (lt_z z lowest) (lt_z highest z) e in (
      omega (arith, (diff_nlt z lowest a b 0 16384 d diff_lowest).0 p.0),
      omega (arith, (diff_nlt highest z 16383 0 a b diff_highest d).0 p.1),
    )

pub range_in : (z : ℤ) (a b : ℕ) → Diff z a b → b ≤ a + 16384 → a ≤ b + 16383 → out_of_range z ≡ false
unfolding out_of_range
range_in z a b d h g =
    neither_or (lt_z z lowest) (lt_z highest z)
    ((diff_nlt z lowest a b 0 16384 d diff_lowest).1 (omega arith))
    ((diff_nlt highest z 16383 0 a b diff_highest d).1 (omega arith))

biased-apart : (z : ℤ) → biased z ≡ (above z + 16384 - below z) + (below z - (above z + 16384))
unfolding biased
biased-apart z =
    let e = diff_apart lowest z 0 16384 (above z) (below z) diff_lowest (diff_parts z) in omega arith

-- a coordinate is its bias less 16384
pub diff_biased : (z : ℤ) → out_of_range z ≡ false → Diff z (biased z) 16384
diff_biased z e =
    let r = in_range z _ _ (diff_parts z) e in
    diff_move z (above z) (below z) (biased z) 16384 (omega (arith, biased-apart z, r.0)) (diff_parts z)

pub biased_lt : (z : ℤ) → out_of_range z ≡ false → biased z < 32768
biased_lt z e = let r = in_range z _ _ (diff_parts z) e in omega (arith, biased-apart z, r.0, r.1)

pub diff_unbiased : (n : ℕ) → Diff (unbiased n) n 16384
unfolding unbiased
diff_unbiased n = diff_move (pos n +ℤ lowest) _ _ _ _ (omega arith) (diff_add (pos n) lowest n 0 0 16384 (diff_pos n) diff_lowest)

pub unbiased_in : (n : ℕ) → n < 32768 → out_of_range (unbiased n) ≡ false
unbiased_in n l = range_in (unbiased n) n 16384 (diff_unbiased n) (omega arith) (omega arith)

pub unbiased-biased : (z : ℤ) → out_of_range z ≡ false → unbiased (biased z) ≡ z
unbiased-biased z e = diff_eq _ _ _ _ _ _ (diff_unbiased (biased z)) (diff_biased z e) (omega arith)

pub biased-unbiased : (n : ℕ) → n < 32768 → biased (unbiased n) ≡ n
biased-unbiased n l =
    let d = diff_same (unbiased n) (unbiased n) _ _ _ _ (diff_biased (unbiased n) (unbiased_in n l)) (diff_unbiased n) refl in omega arith

-- n above a coordinate, where that is a coordinate too
module _ (z : ℤ) (n : ℕ) (e : out_of_range z ≡ false) (l : biased z + n < 32768) where
  diff_shifted : Diff (z +ℤ pos n) (biased z + n) 16384
  diff_shifted = diff_plus z (biased z) 16384 n (diff_biased z e)

  pub shifted_in : out_of_range (z +ℤ pos n) ≡ false
  shifted_in = range_in (z +ℤ pos n) (biased z + n) 16384 diff_shifted (omega arith) (omega arith)

  pub biased_shifted : biased (z +ℤ pos n) ≡ biased z + n
  biased_shifted =
      let d = diff_same (z +ℤ pos n) (z +ℤ pos n) _ _ _ _ (diff_biased (z +ℤ pos n) shifted_in) diff_shifted refl in omega arith

-- a coordinate in range fits a signed 32-bit number
pub in_range_fits : (z : ℤ) → out_of_range z ≡ false → mag z < 2 ^ 31
in_range_fits z e = diff_mag z (biased z) 16384 (2 ^ 31) (diff_biased z e) (omega (arith, biased_lt z e)) (omega arith)

-- what the code computes
pub minus-lowest : (z : ℤ) → out_of_range z ≡ false → z -ℤ lowest ≡ pos (biased z)
minus-lowest z e =
    diff_eq _ _ (biased z + 16384) 16384 (biased z) 0 (diff_minus z lowest (biased z) 16384 0 16384 (diff_biased z e) diff_lowest) (diff_pos (biased z)) (omega arith)

pub biased_fits : (z : ℤ) → out_of_range z ≡ false → SFits w32 (pos (biased z))
biased_fits z e = record { sfits = omega (arith, biased_lt z e) }
