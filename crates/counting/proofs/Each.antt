-- The list of a function's values has one element for each number, that number's value.
use Prim.Native.Nat.{ℕ, zero, suc, ◌-◌, ◌<◌}
use mathlib.Core.Path.{◌≡◌, refl, sym, ap, ap₂, ◌∙◌}
use mathlib.Core.List.{List, [], ◌∷◌, ◌++◌, reverse, reverse_aux-eq}
use native.Mathlib.Omega.{arith}
use lib.ListN.{length, get_or}
use Rattle.counting.specs.Count.{each}

module _ {A : Type 0} where
  pub each-length : (n : ℕ) (f : ℕ → A) → length (each n f) ≡ n
  unfolding each
  each-length zero f = refl
  each-length (suc n) f = ap suc (each-length n (λ k. f (suc k)))

  pub each_at : (n : ℕ) (f : ℕ → A) (d : A) (k : ℕ) → k < n → get_or (each n f) k d ≡ f k
  unfolding each
  each_at zero f d k l = absurd (omega arith)
  each_at (suc n) f d zero l = refl
  each_at (suc n) f d (suc k) l = each_at n (λ i. f (suc i)) d k (omega arith)

  pub each_cong : (n : ℕ) (f g : ℕ → A) → ((k : ℕ) → k < n → f k ≡ g k) → each n f ≡ each n g
  unfolding each
  each_cong zero f g h = refl
  each_cong (suc n) f g h =
      ap₂ (λ (x : A) (xs : List A). x ∷ xs) (h 0 (omega arith)) (each_cong n _ _ (λ k l. h (suc k) (omega arith)))

  each_last : (n : ℕ) (f : ℕ → A) → each (suc n) f ≡ (each n f ++ f n ∷ [])
  unfolding each
  each_last zero f = refl
  each_last (suc n) f = ap (λ (xs : List A). f 0 ∷ xs) (each_last n (λ k. f (suc k)))

  -- from the last one back
  pub each_back : (n : ℕ) (f : ℕ → A) → reverse (each n f) ≡ each n (λ k. f (n - 1 - k))
  unfolding each
  each_back zero f = refl
  each_back (suc n) f =
      let g : ℕ → A = λ k. f (suc n - 1 - k) in
      reverse_aux-eq (each n (λ k. f (suc k))) (f 0 ∷ [])
      ∙ ap₂ (λ (xs : List A) (x : A). xs ++ x ∷ [])
      (each_back n (λ k. f (suc k)) ∙ each_cong n _ g (λ k l. ap f (omega arith)))
      (ap f (omega arith))
      ∙ sym (each_last n g)
