-- A test that holds on an interval is counted by the interval's length.
use Prim.Native.Nat.{ℕ, zero, suc, ◌+◌, ◌-◌, ◌≤◌, ◌<◌, min}
use mathlib.Core.Path.{◌≡◌, refl, sym, ap, ap₂, ◌∙◌}
use mathlib.Core.Logic.{◌↔◌}
use mathlib.Core.Bool.{Bool, true, false, ◌&&◌, and-true, and-false}
use native.Mathlib.Omega.{arith}
use native.Mathlib.Decide.{dec_le, dec_lt}
use native.Mathlib.Nat.{add-zero, add-suc, add_assoc}
use lib.Dec.{eqb}
use borrow.Author.Tests.{eqb-true, eqb-false}
use Rattle.counting.specs.Count.{one, count}
use Rattle.counting.proofs.Boolean.{clash, never}

pub one_most : (t : Bool) → one t ≤ 1
one_most true = omega arith
one_most false = omega arith

pub count_cong : (n : ℕ) (f g : ℕ → Bool) → ((i : ℕ) → i < n → f i ≡ g i) → count n f ≡ count n g
unfolding count
count_cong zero f g h = refl
count_cong (suc n) f g h = ap₂ ◌+◌ (count_cong n f g (λ i l. h i (omega arith))) (ap one (h n (omega arith)))

pub count_most : (n : ℕ) (f : ℕ → Bool) → count n f ≤ n
unfolding count
count_most zero f = omega arith
count_most (suc n) f = omega (arith, count_most n f, one_most (f n))

pub count_none : (n : ℕ) (f : ℕ → Bool) → ((i : ℕ) → i < n → f i ≡ false) → count n f ≡ 0
unfolding count
count_none zero f h = refl
count_none (suc n) f h = rw (count_none n f (λ i l. h i (omega arith)), h n (omega arith))

-- a test that is counted nowhere holds nowhere
one_zero : (t : Bool) → one t ≡ 0 → t ≡ false
one_zero true e = absurd (omega arith)
one_zero false e = refl

pub count_zero : (n : ℕ) (f : ℕ → Bool) → count n f ≡ 0 → (i : ℕ) → i < n → f i ≡ false
unfolding count
count_zero zero f z i l = absurd (omega arith)
count_zero (suc n) f z i l =
    elim (dec_lt i n) [
      | yes p ↦ count_zero n f (omega (arith, z)) i p
      | no p ↦ let same : i ≡ n = omega arith in ap f same ∙ one_zero (f n) (omega (arith, z))
    ]

-- at one number alone
pub count_at : (n : ℕ) (f : ℕ → Bool) (k : ℕ) → k < n → count n (λ i. f i && eqb i k) ≡ one (f k)
unfolding count
count_at zero f k l = absurd (omega arith)
count_at (suc n) f k l = go (eqb n k) refl (count_at n f k)
  where
    go : (t : Bool) → eqb n k ≡ t → (k < n → count n (λ i. f i && eqb i k) ≡ one (f k))
        → count n (λ i. f i && eqb i k) + one (f n && eqb n k) ≡ one (f k)
    go true e ih =
        let q = eqb-true n k e in
        let none : count n (λ i. f i && eqb i k) ≡ 0 =
        count_none n _ (λ i li. ap (λ (t : Bool). f i && t) (never (eqb i k) (λ t. omega (arith, eqb-true i k t))) ∙ and-false (f i)) in
        let last : one (f n && eqb n k) ≡ one (f k) = ap one (ap (λ (t : Bool). f n && t) e ∙ and-true (f n) ∙ ap f q) in
        omega arith
    go false e ih =
        let last : one (f n && eqb n k) ≡ 0 = ap one (ap (λ (t : Bool). f n && t) e ∙ and-false (f n)) in
        omega (arith, ih (omega (arith, eqb-false n k e)))

-- the numbers below a, and the b numbers from a on
pub count_join : (a b : ℕ) (f : ℕ → Bool) → count a f + count b (λ j. f (a + j)) ≡ count (a + b) f
unfolding count
count_join a zero f = rw (add-zero a) (add-zero (count a f))
count_join a (suc b) f =
    rw (add-suc a b)
    (sym (add_assoc (count a f) (count b (λ j. f (a + j))) (one (f (a + b)))) ∙ ap (λ (t : ℕ). t + one (f (a + b))) (count_join a b f))

count_min : (n a b : ℕ) (f : ℕ → Bool) → ((i : ℕ) → i < n → (f i ≡ true) ↔ ((a ≤ i) × (i < b)))
    → count n f ≡ min n b - min n a
unfolding count
count_min zero a b f h = omega arith
count_min (suc n) a b f h = go (f n) refl (count_min n a b f (λ i l. h i (omega arith)))
  where
    out : (x : ℕ) → ((a ≤ n) × (n < b) → ⊥) → x ≡ min n b - min n a → x + 0 ≡ min (suc n) b - min (suc n) a
    out x k p =
        elim (dec_le a n) [ yes u ↦ elim (dec_lt n b) [ yes v ↦ absurd (k (u, v)) | no v ↦ omega arith ] | no u ↦ omega arith ]

    go : (t : Bool) → f n ≡ t → count n f ≡ min n b - min n a → count n f + one (f n) ≡ min (suc n) b - min (suc n) a
    go true e q = let w = (h n (omega arith)).0 e in rw e (omega (arith, w.0, w.1, q))
    go false e q = rw e (out (count n f) (λ w. clash (f n) e ((h n (omega arith)).1 w)) q)

pub count_range : (n a b : ℕ) (f : ℕ → Bool) → b ≤ n → ((i : ℕ) → i < n → (f i ≡ true) ↔ ((a ≤ i) × (i < b)))
    → count n f ≡ b - a
count_range n a b f lb h = omega (arith, count_min n a b f h)
