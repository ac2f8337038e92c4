-- The whole number nearest to a fraction, a half to the larger, and what pins it. Assumes nothing.
use Rattle.std.specs.Prelude.{ℕ, ◌+◌, ◌-◌, ◌*◌, ◌/◌, ◌≤◌, ◌≡◌, ℤ, pos, negsuc, ◌+ℤ◌, ◌-ℤ◌, ◌*ℤ◌, ◌≤ℤ◌, ◌<ℤ◌}
use Rattle.coordinate.specs.Coordinate.{apart}

-- z / c rounded down, for a c of at least 1; negsuc n is −(n + 1)
unfoldable pub floor_div : ℤ → ℕ → ℤ
floor_div (pos n) c = pos (n / c)
floor_div (negsuc n) c = negsuc (n / c)

-- n / c rounded up, for a c of at least 1
unfoldable pub ceil_div : ℕ → ℕ → ℕ
ceil_div n c = (n + (c - 1)) / c

-- it is the least whole number that n / c is not above
pub record CeilFacts (n c : ℕ) : Type 0 where
  pub covers : n ≤ c * ceil_div n c
  pub least : (k : ℕ) → n ≤ c * k → ceil_div n c ≤ k

-- the whole number nearest to p / d: p / d + 1/2, which is (2 × p + d) / (2 × d), rounded down
unfoldable pub nearest : ℤ → ℕ → ℤ
unfolding floor_div
nearest p d = floor_div (pos 2 *ℤ p +ℤ pos d) (2 * d)

-- n − 1/2 ≤ p / d < n + 1/2, each part times 2 × d
pub record WithinHalf (p : ℤ) (d : ℕ) (n : ℤ) : Type 0 where
  pub low : (pos (2 * d) *ℤ n -ℤ pos d) ≤ℤ (pos 2 *ℤ p)
  pub high : (pos 2 *ℤ p) <ℤ (pos (2 * d) *ℤ n +ℤ pos d)

-- `nearest` lies so, no other whole number does, and it is at most half a unit from p / d. Where p / d and q / d are at most k
-- apart, so are the whole numbers nearest to them.
pub record NearestFacts (p : ℤ) (d : ℕ) : Type 0 where
  pub within : WithinHalf p d (nearest p d)
  pub only : (n : ℤ) → WithinHalf p d n → n ≡ nearest p d
  pub half : 2 * apart (pos d *ℤ nearest p d) p ≤ d
  pub moves : (q : ℤ) (k : ℕ) → apart p q ≤ d * k → apart (nearest p d) (nearest q d) ≤ k
