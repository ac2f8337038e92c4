-- The floor of z / c is the only q with q × c ≤ z < q × c + c; with z = 2 × p + d and c = 2 × d that is `WithinHalf`. Where z grows
-- by at most k × c the floor grows by at most k.
use Prim.Native.Nat.{ℕ, ◌+◌, ◌-◌, ◌*◌, ◌/◌, ◌≤◌, ◌<◌}
use mathlib.Core.Path.{◌≡◌, refl, sym}
use mathlib.Core.Bool.{true, false}
use mathlib.Core.Logic.{◌↔◌}
use native.Mathlib.Nat.{div-add-mod', mod-lt, mul_comm, mul-add, mul_assoc, mul-le-mul_left, lt_of_mul-lt-mul_left}
use native.Mathlib.Omega.{arith}
use lib.IntN.{ℤ, pos, negsuc, ◌+ℤ◌, ◌-ℤ◌, ◌*ℤ◌}
use lib.Signed.{le_z, lt_z}
use Rattle.counting.proofs.Boolean.{to_T, of_T}
use Rattle.coordinate.specs.Coordinate.{apart, out_of_range}
use Rattle.coordinate.specs.Nearest.{floor_div, ceil_div, nearest, CeilFacts, WithinHalf, NearestFacts}
use Rattle.coordinate.proofs.Bias.{in_range, range_in}
use Rattle.coordinate.proofs.Difference.{Diff, above, below, diff_parts, diff_eq, diff_same, diff_add, diff_times, diff_plus, diff_less, diff_le, diff_lt, diff_apart}

-- ---- the floor

-- (u − v) × c ≤ a − b < (u − v) × c + c
record Floor (a b c u v : ℕ) : Type 0 where
  least : c * u + b ≤ a + c * v
  next : a + c * v < c * u + b + c

quotient : (n c : ℕ) → 0 < c → (c * (n / c) ≤ n) × (n < c * (n / c) + c)
quotient n c C =
    let e = mul_comm c (n / c) in
    (omega (arith, div-add-mod' n c), omega (arith, div-add-mod' n c, mod-lt n C))

floor_parts : (z : ℤ) (c : ℕ) → 0 < c → Floor (above z) (below z) c (above (floor_div z c)) (below (floor_div z c))
unfolding floor_div
floor_parts (pos n) c C = let q = quotient n c C in record { least = omega (arith, q.0); next = omega (arith, q.1) }
floor_parts (negsuc n) c C =
    let q = quotient n c C in
    let e = mul-add c (n / c) 1 in
    record { least = omega (arith, q.1); next = omega (arith, q.0) }

floor_is : (z : ℤ) (a b c : ℕ) → 0 < c → Diff z a b → Floor a b c (above (floor_div z c)) (below (floor_div z c))
floor_is z a b c C d =
    let e = diff_same z z _ _ a b (diff_parts z) d refl in
    let f = floor_parts z c C in
    record { least = omega (arith, f.least); next = omega (arith, f.next) }

-- where a − b is at most c × k above a' − b', its floor is at most k above the other's
floor_most : (a b a' b' c k u v u' v' : ℕ) → a + b' ≤ a' + b + c * k → Floor a b c u v → Floor a' b' c u' v' → u + v' ≤ u' + v + k
floor_most a b a' b' c k u v u' v' l f g =
    omega (arith, lt_of_mul-lt-mul_left c {m = u + v'} {n = u' + v + k + 1} (omega (arith, f.least, g.next)))

floor_only : (z n : ℤ) (a b c u v : ℕ) → 0 < c → Diff z a b → Diff n u v → Floor a b c u v → n ≡ floor_div z c
floor_only z n a b c u v C d e f =
    let g = floor_is z a b c C d in
    diff_eq n _ u v _ _ e (diff_parts (floor_div z c))
    (omega (arith, floor_most a b a b c 0 u v _ _ (omega arith) f g, floor_most a b a b c 0 _ _ u v (omega arith) g f))

-- ---- the nearest whole number

module _ (p : ℤ) (d : ℕ) (a b : ℕ) (P : Diff p a b) where
  twice : Diff (pos 2 *ℤ p) (2 * a) (2 * b)
  twice = diff_times 2 p a b P

  raised : Diff (pos 2 *ℤ p +ℤ pos d) (2 * a + d) (2 * b)
  raised = diff_plus (pos 2 *ℤ p) _ _ d twice

  module _ (n : ℤ) (u v : ℕ) (N : Diff n u v) where
    scaled : Diff (pos (2 * d) *ℤ n) (2 * d * u) (2 * d * v)
    scaled = diff_times (2 * d) n u v N

    low_is : (le_z (pos (2 * d) *ℤ n -ℤ pos d) (pos 2 *ℤ p) ≡ true) ↔ (2 * d * u + 2 * b ≤ 2 * a + (2 * d * v + d))
    low_is = diff_le (pos (2 * d) *ℤ n -ℤ pos d) (pos 2 *ℤ p) _ _ _ _ (diff_less (pos (2 * d) *ℤ n) _ _ d scaled) twice

    high_is : (lt_z (pos 2 *ℤ p) (pos (2 * d) *ℤ n +ℤ pos d) ≡ true) ↔ (2 * a + 2 * d * v < 2 * d * u + d + 2 * b)
    high_is = diff_lt (pos 2 *ℤ p) (pos (2 * d) *ℤ n +ℤ pos d) _ _ _ _ twice (diff_plus (pos (2 * d) *ℤ n) _ _ d scaled)

    floor_within : Floor (2 * a + d) (2 * b) (2 * d) u v → WithinHalf p d n
    floor_within f =
        record {
          low = record { le = to_T (le_z (pos (2 * d) *ℤ n -ℤ pos d) (pos 2 *ℤ p)) (low_is.1 (omega (arith, f.least))) };
          high = record { lt = to_T (lt_z (pos 2 *ℤ p) (pos (2 * d) *ℤ n +ℤ pos d)) (high_is.1 (omega (arith, f.next))) };
        }

    within_floor : WithinHalf p d n → Floor (2 * a + d) (2 * b) (2 * d) u v
    within_floor w =
        record {
          least = omega (arith, low_is.0 (of_T _ w.low.le));
          next = omega (arith, high_is.0 (of_T _ w.high.lt));
        }

nearest_floor : (p : ℤ) (d a b : ℕ) → 0 < d → Diff p a b
    → Floor (2 * a + d) (2 * b) (2 * d) (above (nearest p d)) (below (nearest p d))
unfolding nearest
nearest_floor p d a b D P = floor_is (pos 2 *ℤ p +ℤ pos d) _ _ (2 * d) (omega arith) (raised p d a b P)

pub nearest_within : (p : ℤ) (d : ℕ) → 0 < d → WithinHalf p d (nearest p d)
nearest_within p d D =
    let P = diff_parts p in
    floor_within p d _ _ P (nearest p d) _ _ (diff_parts (nearest p d)) (nearest_floor p d _ _ D P)

pub nearest_only : (p : ℤ) (d : ℕ) → 0 < d → (n : ℤ) → WithinHalf p d n → n ≡ nearest p d
unfolding nearest
nearest_only p d D n w =
    let P = diff_parts p in
    let N = diff_parts n in
    floor_only (pos 2 *ℤ p +ℤ pos d) n _ _ (2 * d) _ _ (omega arith) (raised p d _ _ P) N (within_floor p d _ _ P n _ _ N w)

-- the same bound as a distance
within_half : (p : ℤ) (d : ℕ) (n : ℤ) → WithinHalf p d n → 2 * apart (pos d *ℤ n) p ≤ d
within_half p d n w =
    let P = diff_parts p in
    let N = diff_parts n in
    let f = within_floor p d _ _ P n _ _ N w in
    let e = diff_apart (pos d *ℤ n) p _ _ _ _ (diff_times d n _ _ N) P in
    omega (arith, f.least, f.next, mul_assoc 2 d (above n), mul_assoc 2 d (below n))

pub ceil_facts : (n c : ℕ) → 0 < c → CeilFacts n c
unfolding ceil_div
ceil_facts n c C =
    let q = quotient (n + (c - 1)) c C in
    record {
      covers = omega (arith, q.1);
      least = λ k l. omega (arith, lt_of_mul-lt-mul_left c {m = (n + (c - 1)) / c} {n = k + 1} (omega (arith, q.0)));
    }

-- of two fractions at most k apart
nearest_moves : (p : ℤ) (d : ℕ) → 0 < d → (q : ℤ) (k : ℕ) → apart p q ≤ d * k → apart (nearest p d) (nearest q d) ≤ k
nearest_moves p d D q k l =
    let P = diff_parts p in
    let Q = diff_parts q in
    let f = nearest_floor p d _ _ D P in
    let g = nearest_floor q d _ _ D Q in
    let far = diff_apart p q _ _ _ _ P Q in
    let e = mul_assoc 2 d k in
    let up = floor_most _ _ _ _ (2 * d) k _ _ _ _ (omega arith) f g in
    let down = floor_most _ _ _ _ (2 * d) k _ _ _ _ (omega arith) g f in
    omega (arith, diff_apart (nearest p d) (nearest q d) _ _ _ _ (diff_parts (nearest p d)) (diff_parts (nearest q d)))

pub nearest_facts : (p : ℤ) (d : ℕ) → 0 < d → NearestFacts p d
nearest_facts p d D =
    let w = nearest_within p d D in
    record { within = w; only = nearest_only p d D; half = within_half p d (nearest p d) w; moves = nearest_moves p d D }

-- the same in natural numbers, p being a − b and n being u − v
pub nearest_is : (p n : ℤ) (d a b u v : ℕ) → 0 < d → Diff p a b → Diff n u v → 2 * (d * u) + 2 * b ≤ 2 * a + 2 * (d * v) + d
    → 2 * a + 2 * (d * v) < 2 * (d * u) + 2 * b + d → n ≡ nearest p d
nearest_is p n d a b u v D P N least next =
    let e = mul_assoc 2 d u in
    let f = mul_assoc 2 d v in
    nearest_only p d D n (floor_within p d a b P n u v N (record { least = omega arith; next = omega arith }))

-- the nearest whole number is in range where −16384.5 ≤ p / d < 16383.5, and nowhere else
module _ (p : ℤ) (d a b : ℕ) (D : 0 < d) (P : Diff p a b) where
  pub nearest_in : out_of_range (nearest p d) ≡ false → (2 * b ≤ 2 * a + 32769 * d) × (2 * a < 2 * b + 32767 * d)
  nearest_in e =
      let u = above (nearest p d) in
      let v = below (nearest p d) in
      let f = nearest_floor p d a b D P in
      let r = in_range (nearest p d) u v (diff_parts (nearest p d)) e in
      let l = mul-le-mul_left (2 * d) r.0 in
      let h = mul-le-mul_left (2 * d) r.1 in
      let x = mul-add (2 * d) u 16384 in
      let y = mul-add (2 * d) v 16383 in
      (omega (arith, f.least, f.next), omega (arith, f.least, f.next))

  pub in_nearest : 2 * b ≤ 2 * a + 32769 * d → 2 * a < 2 * b + 32767 * d → out_of_range (nearest p d) ≡ false
  in_nearest l h =
      let u = above (nearest p d) in
      let v = below (nearest p d) in
      let f = nearest_floor p d a b D P in
      let x = mul-add (2 * d) u 16385 in
      let y = mul-add (2 * d) v 16384 in
      let k = lt_of_mul-lt-mul_left (2 * d) {m = v} {n = u + 16385} (omega (arith, f.next)) in
      let g = lt_of_mul-lt-mul_left (2 * d) {m = u} {n = v + 16384} (omega (arith, f.least)) in
      range_in (nearest p d) u v (diff_parts (nearest p d)) (omega arith) (omega arith)

-- of k + p / d, for a whole number k
pub nearest_shift : (k p : ℤ) (d : ℕ) → 0 < d → nearest (pos d *ℤ k +ℤ p) d ≡ k +ℤ nearest p d
nearest_shift k p d D =
    let K = diff_parts k in
    let P = diff_parts p in
    let N = diff_parts (nearest p d) in
    let f = nearest_floor p d _ _ D P in
    let x = mul_assoc 2 d (above (nearest p d)) in
    let y = mul_assoc 2 d (below (nearest p d)) in
    let u = mul-add d (above k) (above (nearest p d)) in
    let v = mul-add d (below k) (below (nearest p d)) in
    sym
    (nearest_is (pos d *ℤ k +ℤ p) (k +ℤ nearest p d) d _ _ _ _ D
    (diff_add (pos d *ℤ k) p _ _ _ _ (diff_times d k _ _ K) P) (diff_add k (nearest p d) _ _ _ _ K N)
    (omega (arith, f.least)) (omega (arith, f.next)))
