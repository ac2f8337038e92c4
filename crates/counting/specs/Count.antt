-- Counting over the numbers below n. Cited wherever steps, runs, columns or rows are counted. Assumes nothing.
use Rattle.std.specs.Prelude.{ℕ, zero, suc, ◌+◌, Bool, true, false, ◌||◌, cond, List, [], ◌∷◌, Option, None, Some}

-- 1 for true, 0 for false
abbrev pub one : Bool → ℕ
one true = 1
one false = 0

-- f holds at a number below n
unfoldable pub any : ℕ → (ℕ → Bool) → Bool
any zero f = false
any (suc n) f = any n f || f n

-- at how many numbers below n f holds
unfoldable pub count : ℕ → (ℕ → Bool) → ℕ
count zero f = 0
count (suc n) f = count n f + one (f n)

-- f 0 + .. + f (n − 1)
unfoldable pub sum : ℕ → (ℕ → ℕ) → ℕ
sum zero f = 0
sum (suc n) f = sum n f + f n

-- the first number below n at which f holds, if there is one
unfoldable pub first : ℕ → (ℕ → Bool) → Option ℕ
first zero f = None
first (suc n) f = cond (any n f) (first n f) (cond (f n) (Some n) None)

-- f 0 to f (n − 1), in order
unfoldable pub each : {A : Type 0} → ℕ → (ℕ → A) → List A
each zero f = []
each (suc n) f = f 0 ∷ each n (λ k. f (suc k))
