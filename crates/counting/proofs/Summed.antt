-- A sum depends on its terms alone and adds term by term; a count over neighbouring intervals is the sum of the counts in
-- each, in either order.
use Prim.Native.Nat.{ℕ, zero, suc, ◌+◌, ◌-◌, ◌*◌, ◌≤◌, ◌<◌}
use mathlib.Core.Path.{◌≡◌, refl, sym, ap, ap₂, ◌∙◌}
use mathlib.Core.Bool.{Bool, ◌&&◌}
use native.Mathlib.Omega.{arith}
use native.Mathlib.Decide.{dec_lt}
use native.Mathlib.Nat.{add-zero, add-suc, add_assoc, zero-mul}
use native.Mathlib.Numerals.{add-one}
use lib.Dec.{ltb}
use borrow.Author.Tests.{lt-ltb, le-ltb}
use Rattle.counting.specs.Count.{one, count, sum}
use Rattle.counting.proofs.Counted.{count_cong, count_join, count_none}

pub sum_cong : (n : ℕ) (f g : ℕ → ℕ) → ((k : ℕ) → k < n → f k ≡ g k) → sum n f ≡ sum n g
unfolding sum
sum_cong zero f g h = refl
sum_cong (suc n) f g h = ap₂ ◌+◌ (sum_cong n f g (λ k l. h k (omega arith))) (h n (omega arith))

-- the numbers below at n, by n intervals that follow one another from 0 on: size k numbers from at k on
pub count_sum : (n : ℕ) (at size : ℕ → ℕ) (f : ℕ → Bool) → at 0 ≡ 0 → ((k : ℕ) → k < n → at (k + 1) ≡ at k + size k)
    → sum n (λ k. count (size k) (λ j. f (at k + j))) ≡ count (at n) f
unfolding sum count
count_sum zero at size f z h = rw z
count_sum (suc n) at size f z h =
    ap (λ (x : ℕ). x + count (size n) (λ j. f (at n + j))) (count_sum n at size f z (λ k l. h k (omega arith)))
    ∙ count_join (at n) (size n) f
    ∙ ap (λ (x : ℕ). count x f) (sym (h n (omega arith)) ∙ ap at (add-one n))

-- the n numbers below n, from the last one back
pub count_back : (n : ℕ) (f : ℕ → Bool) → count n (λ j. f (n - 1 - j)) ≡ count n f
unfolding count
count_back zero f = refl
count_back (suc n) f =
    let g : ℕ → Bool = λ j. f (suc n - 1 - j) in
    let last : g 0 ≡ f n = ap f (omega arith) in
    let before : count n (λ j. g (1 + j)) ≡ count n f = count_cong n _ _ (λ j l. ap f (omega arith)) ∙ count_back n f in
    let one_more : 1 + n ≡ suc n = omega arith in
    ap (λ (x : ℕ). count x g) (sym one_more)
    ∙ sym (count_join 1 n g)
    ∙ omega (arith, before, ap one last)

-- what adds up at each number adds up in all
pub count_both : (n : ℕ) (f g h : ℕ → Bool) → ((i : ℕ) → i < n → one (f i) ≡ one (g i) + one (h i)) → count n f ≡ count n g + count n h
unfolding count
count_both zero f g h e = refl
count_both (suc n) f g h e = omega (arith, count_both n f g h (λ i l. e i (omega arith)), e n (omega arith))

pub sum_both : (n : ℕ) (f g h : ℕ → ℕ) → ((i : ℕ) → i < n → f i ≡ g i + h i) → sum n f ≡ sum n g + sum n h
unfolding sum
sum_both zero f g h e = refl
sum_both (suc n) f g h e = omega (arith, sum_both n f g h (λ i l. e i (omega arith)), e n (omega arith))

-- the terms below a, and the b terms from a on
pub sum_join : (a b : ℕ) (f : ℕ → ℕ) → sum a f + sum b (λ j. f (a + j)) ≡ sum (a + b) f
unfolding sum
sum_join a zero f = rw (add-zero a) (add-zero (sum a f))
sum_join a (suc b) f =
    rw (add-suc a b)
    (sym (add_assoc (sum a f) (sum b (λ j. f (a + j))) (f (a + b))) ∙ ap (λ (t : ℕ). t + f (a + b)) (sum_join a b f))

-- h rows of b terms each
pub sum_rows : (h b : ℕ) (f : ℕ → ℕ) → sum (h * b) f ≡ sum h (λ r. sum b (λ q. f (r * b + q)))
unfolding sum
sum_rows zero b f = rw (zero-mul b) refl
sum_rows (suc h) b f =
    let more : suc h * b ≡ h * b + b = omega arith in
    ap (λ (n : ℕ). sum n f) more
    ∙ sym (sum_join (h * b) b f)
    ∙ ap (λ (t : ℕ). t + sum b (λ q. f (h * b + q))) (sum_rows h b f)

-- b groups of eight
pub count_eights : (b : ℕ) (f : ℕ → Bool) → sum b (λ q. count 8 (λ k. f (8 * q + k))) ≡ count (8 * b) f
count_eights b f = count_sum b (λ q. 8 * q) (λ q. 8) f refl (λ k l. omega arith)

pub sum_none : (n : ℕ) (f : ℕ → ℕ) → ((i : ℕ) → i < n → f i ≡ 0) → sum n f ≡ 0
unfolding sum
sum_none zero f h = refl
sum_none (suc n) f h = rw (sum_none n f (λ i l. h i (omega arith)), h n (omega arith))

-- a sum of 0 has no other term
pub sum_zero : (n : ℕ) (f : ℕ → ℕ) → sum n f ≡ 0 → (i : ℕ) → i < n → f i ≡ 0
unfolding sum
sum_zero zero f z i l = absurd (omega arith)
sum_zero (suc n) f z i l =
    elim (dec_lt i n) [
      | yes p ↦ sum_zero n f (omega (arith, z)) i p
      | no p ↦ let same : i ≡ n = omega arith in omega (arith, z, ap f same)
    ]

-- one term alone
pub sum_at : (n : ℕ) (f : ℕ → ℕ) (k : ℕ) → k < n → ((i : ℕ) → i < n → (i ≡ k → ⊥) → f i ≡ 0) → sum n f ≡ f k
unfolding sum
sum_at zero f k l h = absurd (omega arith)
sum_at (suc n) f k l h =
    elim (dec_lt k n) [
      | yes p ↦ omega (arith, sum_at n f k p (λ i li ne. h i (omega arith) ne), h n (omega arith) (λ q. omega arith))
      | no p ↦
          let same : n ≡ k = omega arith in
          omega (arith, sum_none n f (λ i li. h i (omega arith) (λ q. omega arith)), ap f same)
    ]

-- of m numbers those below n
pub count-below : (n m : ℕ) (f : ℕ → Bool) → n ≤ m → count m (λ i. ltb i n && f i) ≡ count n f
count-below n m f l =
    let g : ℕ → Bool = λ i. ltb i n && f i in
    let all : n + (m - n) ≡ m = omega arith in
    let low : count n g ≡ count n f = count_cong n g f (λ i li. rw (lt-ltb i n li) refl) in
    let high : count (m - n) (λ j. g (n + j)) ≡ 0 = count_none (m - n) _ (λ j lj. rw (le-ltb (n + j) n (omega arith)) refl) in
    ap (λ (x : ℕ). count x g) (sym all) ∙ sym (count_join n (m - n) g) ∙ omega (arith, low, high)
