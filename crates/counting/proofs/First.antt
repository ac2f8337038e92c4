-- The first number at which a test holds is the one below which it never does.
use Prim.Native.Nat.{ℕ, zero, suc, ◌<◌}
use mathlib.Core.Path.{◌≡◌, refl, sym, ap, ◌∙◌}
use mathlib.Core.Logic.{⊎_elim}
use mathlib.Core.Bool.{Bool, true, false, cond, ◌||◌}
use Rattle.std.specs.Prelude.{None, Some}
use native.Mathlib.Omega.{arith}
use native.Mathlib.Nat.{eq-or-lt_of_le, le_of_suc-le-suc}
use Rattle.counting.specs.Count.{any, first}
use Rattle.counting.proofs.Boolean.{clash}
use Rattle.counting.proofs.Any.{any_make, any_none, none_at}

pub first_none : (n : ℕ) (f : ℕ → Bool) → ((i : ℕ) → i < n → f i ≡ false) → first n f ≡ None
unfolding first
first_none zero f h = refl
first_none (suc n) f h = rw (any_none n f (λ i l. h i (omega arith)), h n (omega arith))

pub first-at : (n : ℕ) (f : ℕ → Bool) (j : ℕ) → j < n → f j ≡ true → ((i : ℕ) → i < j → f i ≡ false) → first n f ≡ Some j
unfolding first
first-at zero f j l e h = absurd (omega arith)
first-at (suc n) f j l e h =
    ⊎_elim
    (λ (q : j ≡ n). rw (any_none n f (λ i li. h i (omega arith)), sym (ap f q) ∙ e) (ap Some (sym q)))
    (λ (q : j < n). rw (any_make n f j q e) (first-at n f j q e h))
    (eq-or-lt_of_le (le_of_suc-le-suc l))

-- it is below the bound
pub first_below : (n : ℕ) (f : ℕ → Bool) (k : ℕ) → first n f ≡ Some k → k < n
unfolding first
first_below zero f k e = absurd (let z : ◌≡◌ {A = ℕ} 0 1 = cc in omega arith)
first_below (suc n) f k e = go (any n f) (f n) (first_below n f k) e
  where
    go : (t u : Bool) → (first n f ≡ Some k → k < n) → cond t (first n f) (cond u (Some n) None) ≡ Some k → k < suc n
    go true u ih q = omega (arith, ih q)
    go false true ih q = let h : n ≡ k = cc in omega arith
    go false false ih q = absurd (let z : ◌≡◌ {A = ℕ} 0 1 = cc in omega arith)

-- where no first is found there is none
pub none_any : (n : ℕ) (f : ℕ → Bool) → first n f ≡ None → any n f ≡ false
unfolding first any
none_any zero f e = refl
none_any (suc n) f e = go (any n f) (f n) refl (none_any n f) e
  where
    go : (t u : Bool) → any n f ≡ t → (first n f ≡ None → any n f ≡ false) → cond t (first n f) (cond u (Some n) None) ≡ None → (t || u) ≡ false
    go true u q ih r = absurd (clash (any n f) (ih r) q)
    go false true q ih r = absurd (let z : ◌≡◌ {A = ℕ} 0 1 = cc in omega arith)
    go false false q ih r = refl

-- it holds there, and at no number before
pub first_holds : (n : ℕ) (f : ℕ → Bool) (k : ℕ) → first n f ≡ Some k → (f k ≡ true) × ((i : ℕ) → i < k → f i ≡ false)
unfolding first
first_holds zero f k e = absurd (let z : ◌≡◌ {A = ℕ} 0 1 = cc in omega arith)
first_holds (suc n) f k e = go (any n f) (f n) refl refl (first_holds n f k) e
  where
    go : (t u : Bool) → any n f ≡ t → f n ≡ u → (first n f ≡ Some k → (f k ≡ true) × ((i : ℕ) → i < k → f i ≡ false))
        → cond t (first n f) (cond u (Some n) None) ≡ Some k → (f k ≡ true) × ((i : ℕ) → i < k → f i ≡ false)
    go true u a b ih q = ih q
    go false true a b ih q = let h : k ≡ n = cc in (ap f h ∙ b, λ i l. none_at n f a i (omega arith))
    go false false a b ih q = absurd (let z : ◌≡◌ {A = ℕ} 0 1 = cc in omega arith)
