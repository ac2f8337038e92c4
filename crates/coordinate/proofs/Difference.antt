-- An integer as a difference of two natural numbers, so that a statement about integers becomes one that `omega` reads:
-- `Diff z a b` says that z is a − b. Each operation and test on integers has its law.
use mathlib.Core.Path.{◌≡◌, refl, ap}
use mathlib.Core.Logic.{◌↔◌}
use mathlib.Core.Bool.{Bool, true, false, cond}
use Prim.Native.Nat.{ℕ, zero, suc, ◌+◌, ◌-◌, ◌*◌, ◌≤◌, ◌<◌}
use native.Mathlib.Omega.{arith}
use lib.IntN.{ℤ, pos, negsuc, neg_ℤ, sub_ℕ, ◌+ℤ◌, ◌-ℤ◌, ◌*ℤ◌, nat_abs}
use lib.Signed.{lt_z, le_z, mag}
use lib.Dec.{ltb}
use borrow.Author.Tests.{ltb-true, ltb-false, lt-ltb, le-ltb, leb-true, le-leb}
use Rattle.counting.proofs.Boolean.{and_both, both_and}
use Rattle.coordinate.specs.Coordinate.{apart, same}

abbrev pub Diff : ℤ → ℕ → ℕ → Type 0
Diff (pos p) a b = a ≡ b + p
Diff (negsuc n) a b = b ≡ a + n + 1

-- the two parts of an integer: z is above z − below z
abbrev pub above : ℤ → ℕ
above (pos n) = n
above (negsuc n) = 0

abbrev pub below : ℤ → ℕ
below (pos n) = 0
below (negsuc n) = n + 1

pub diff_parts : (z : ℤ) → Diff z (above z) (below z)
diff_parts (pos n) = omega arith
diff_parts (negsuc n) = omega arith

pub diff_pos : (p : ℕ) → Diff (pos p) p 0
diff_pos p = omega arith

-- the same difference by other numbers
pub diff_move : (z : ℤ) (a b c d : ℕ) → a + d ≡ c + b → Diff z a b → Diff z c d
diff_move (pos p) a b c d h x = omega arith
diff_move (negsuc n) a b c d h x = omega arith

-- two integers of one difference are equal
pub diff_eq : (z w : ℤ) (a b c d : ℕ) → Diff z a b → Diff w c d → a + d ≡ c + b → z ≡ w
diff_eq (pos p) (pos q) a b c d x y h = ap pos (omega arith)
diff_eq (pos p) (negsuc n) a b c d x y h = absurd (omega arith)
diff_eq (negsuc n) (pos q) a b c d x y h = absurd (omega arith)
diff_eq (negsuc n) (negsuc q) a b c d x y h = ap negsuc (omega arith)

one_diff : (z : ℤ) (a b c d : ℕ) → Diff z a b → Diff z c d → a + d ≡ c + b
one_diff (pos p) a b c d x y = omega arith
one_diff (negsuc n) a b c d x y = omega arith

pub diff_same : (z w : ℤ) (a b c d : ℕ) → Diff z a b → Diff w c d → z ≡ w → a + d ≡ c + b
diff_same z w a b c d x y e = one_diff w a b c d (rw (← e) x) y

-- ---- operations

diff_sub : (a b : ℕ) → Diff (sub_ℕ a b) a b
diff_sub a b = go (ltb a b) refl
  where
    go : (t : Bool) → ltb a b ≡ t → Diff (cond t (negsuc (b - suc a)) (pos (a - b))) a b
    go true e = omega (arith, ltb-true a b e)
    go false e = omega (arith, ltb-false a b e)

pub diff_neg : (z : ℤ) (a b : ℕ) → Diff z a b → Diff (neg_ℤ z) b a
diff_neg (pos zero) a b x = omega arith
diff_neg (pos (suc p)) a b x = omega arith
diff_neg (negsuc n) a b x = omega arith

pub diff_add : (z w : ℤ) (a b c d : ℕ) → Diff z a b → Diff w c d → Diff (z +ℤ w) (a + c) (b + d)
diff_add (pos p) (pos q) a b c d x y = omega arith
diff_add (pos p) (negsuc n) a b c d x y =
    diff_move (sub_ℕ p (suc n)) p (suc n) (a + c) (b + d) (omega arith) (diff_sub p (suc n))
diff_add (negsuc n) (pos q) a b c d x y =
    diff_move (sub_ℕ q (suc n)) q (suc n) (a + c) (b + d) (omega arith) (diff_sub q (suc n))
diff_add (negsuc n) (negsuc q) a b c d x y = omega arith

pub diff_minus : (z w : ℤ) (a b c d : ℕ) → Diff z a b → Diff w c d → Diff (z -ℤ w) (a + d) (b + c)
diff_minus z w a b c d x y = diff_add z (neg_ℤ w) a b d c x (diff_neg w c d y)

pub diff_times : (n : ℕ) (z : ℤ) (a b : ℕ) → Diff z a b → Diff (pos n *ℤ z) (n * a) (n * b)
diff_times n (pos p) a b x = omega (arith, ap (λ (y : ℕ). n * y) x)
diff_times n (negsuc p) a b x =
    diff_neg (pos (n * suc p)) (n * b) (n * a) (omega (arith, ap (λ (y : ℕ). n * y) x))

-- z plus a natural number, z less one, and the difference of two natural numbers
pub diff_plus : (z : ℤ) (a b n : ℕ) → Diff z a b → Diff (z +ℤ pos n) (a + n) b
diff_plus z a b n x = diff_move (z +ℤ pos n) _ _ _ _ (omega arith) (diff_add z (pos n) a b n 0 x (diff_pos n))

pub diff_less : (z : ℤ) (a b n : ℕ) → Diff z a b → Diff (z -ℤ pos n) a (b + n)
diff_less z a b n x = diff_move (z -ℤ pos n) _ _ _ _ (omega arith) (diff_minus z (pos n) a b n 0 x (diff_pos n))

pub diff_gap : (a b : ℕ) → Diff (pos a -ℤ pos b) a b
diff_gap a b = diff_move (pos a -ℤ pos b) _ _ _ _ (omega arith) (diff_less (pos a) a 0 b (diff_pos a))

pub diff_cond : (t : Bool) (z w : ℤ) (a b : ℕ) → (t ≡ true → Diff z a b) → (t ≡ false → Diff w a b) → Diff (cond t z w) a b
diff_cond true z w a b f g = f refl
diff_cond false z w a b f g = g refl

diff_abs : (z : ℤ) (a b : ℕ) → Diff z a b → nat_abs z ≡ (a - b) + (b - a)
diff_abs (pos n) a b d = omega arith
diff_abs (negsuc n) a b d = omega arith

-- how far apart
pub diff_apart : (z w : ℤ) (a b c d : ℕ) → Diff z a b → Diff w c d → apart z w ≡ (c + b - (d + a)) + (d + a - (c + b))
diff_apart z w a b c d x y = diff_abs (w -ℤ z) (c + b) (d + a) (diff_minus w z c d a b y x)

-- ---- tests

pub diff_lt : (z w : ℤ) (a b c d : ℕ) → Diff z a b → Diff w c d → (lt_z z w ≡ true) ↔ (a + d < c + b)
diff_lt (pos p) (pos q) a b c d x y = (λ t. omega (arith, ltb-true p q t), λ h. lt-ltb p q (omega arith))
diff_lt (pos p) (negsuc n) a b c d x y = (λ t. absurd (let z : ◌≡◌ {A = ℕ} 0 1 = cc in omega arith), λ h. absurd (omega arith))
diff_lt (negsuc n) (pos q) a b c d x y = (λ t. omega arith, λ h. refl)
diff_lt (negsuc n) (negsuc q) a b c d x y = (λ t. omega (arith, ltb-true q n t), λ h. lt-ltb q n (omega arith))

pub diff_nlt : (z w : ℤ) (a b c d : ℕ) → Diff z a b → Diff w c d → (lt_z z w ≡ false) ↔ (c + b ≤ a + d)
diff_nlt (pos p) (pos q) a b c d x y = (λ t. omega (arith, ltb-false p q t), λ h. le-ltb p q (omega arith))
diff_nlt (pos p) (negsuc n) a b c d x y = (λ t. omega arith, λ h. refl)
diff_nlt (negsuc n) (pos q) a b c d x y = (λ t. absurd (let z : ◌≡◌ {A = ℕ} 0 1 = cc in omega arith), λ h. absurd (omega arith))
diff_nlt (negsuc n) (negsuc q) a b c d x y = (λ t. omega (arith, ltb-false q n t), λ h. le-ltb q n (omega arith))

pub diff_le : (z w : ℤ) (a b c d : ℕ) → Diff z a b → Diff w c d → (le_z z w ≡ true) ↔ (a + d ≤ c + b)
diff_le (pos p) (pos q) a b c d x y = (λ t. omega (arith, leb-true p q t), λ h. le-leb p q (omega arith))
diff_le (pos p) (negsuc n) a b c d x y = (λ t. absurd (let z : ◌≡◌ {A = ℕ} 0 1 = cc in omega arith), λ h. absurd (omega arith))
diff_le (negsuc n) (pos q) a b c d x y = (λ t. omega arith, λ h. refl)
diff_le (negsuc n) (negsuc q) a b c d x y = (λ t. omega (arith, leb-true q n t), λ h. le-leb q n (omega arith))

-- the range of a signed width
pub diff_mag : (z : ℤ) (a b N : ℕ) → Diff z a b → a < b + N → b ≤ a + N → mag z < N
diff_mag (pos p) a b N x h g = omega arith
diff_mag (negsuc n) a b N x h g = omega arith

pub mag_diff : (z : ℤ) (a b N : ℕ) → Diff z a b → mag z < N → (a < b + N) × (b ≤ a + N)
mag_diff (pos p) a b N x h = (omega arith, omega arith)
mag_diff (negsuc n) a b N x h = (omega arith, omega arith)

-- `same` tells whether two integers are equal
pub same_eq : (z w : ℤ) → (same z w ≡ true) ↔ (z ≡ w)
same_eq z w = (there, back)
  where
    there : same z w ≡ true → z ≡ w
    there t =
        let u = and_both (le_z z w) (le_z w z) t in
        let p = (diff_le z w _ _ _ _ (diff_parts z) (diff_parts w)).0 u.0 in
        let q = (diff_le w z _ _ _ _ (diff_parts w) (diff_parts z)).0 u.1 in
        diff_eq z w _ _ _ _ (diff_parts z) (diff_parts w) (omega arith)

    self : (v : ℤ) → le_z v v ≡ true
    self v = (diff_le v v _ _ _ _ (diff_parts v) (diff_parts v)).1 (omega arith)

    back : z ≡ w → same z w ≡ true
    back e = rw e (both_and (le_z w w) (le_z w w) (self w) (self w))
