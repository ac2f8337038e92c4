-- `any` holds exactly where there is a witness; so it depends on the test alone, joins, and shrinks to an interval.
use Prim.Native.Nat.{ℕ, zero, suc, ◌+◌, ◌-◌, ◌≤◌, ◌<◌}
use mathlib.Core.Path.{◌≡◌, refl, sym, ap, ◌∙◌}
use mathlib.Core.Logic.{⊎_elim}
use mathlib.Core.Bool.{Bool, true, false, ◌||◌, or-true, or-false, or_assoc}
use native.Mathlib.Omega.{arith}
use native.Mathlib.Nat.{add-zero, add-suc, eq-or-lt_of_le, le_of_suc-le-suc}
use Rattle.counting.specs.Count.{any}
use Rattle.counting.proofs.Boolean.{bool_iff, clash, never, or_left}

pub any_make : (n : ℕ) (f : ℕ → Bool) (j : ℕ) → j < n → f j ≡ true → any n f ≡ true
unfolding any
any_make zero f j l e = absurd (omega arith)
any_make (suc n) f j l e =
    ⊎_elim
    (λ (q : j ≡ n). rw (sym (ap f q) ∙ e) (or-true (any n f)))
    (λ (q : j < n). rw (any_make n f j q e) refl)
    (eq-or-lt_of_le (le_of_suc-le-suc l))

pub any_find : (n : ℕ) (f : ℕ → Bool) → any n f ≡ true → (j : ℕ) × (j < n) × (f j ≡ true)
unfolding any
any_find zero f e = absurd (clash false refl e)
any_find (suc n) f e = go (f n) refl (any_find n f)
  where
    go : (t : Bool) → f n ≡ t → (any n f ≡ true → (j : ℕ) × (j < n) × (f j ≡ true))
        → (j : ℕ) × (j < suc n) × (f j ≡ true)
    go true q ih = (n, omega arith, q)
    go false q ih = let r = ih (or_left (any n f) (f n) q e) in (r.0, omega (arith, r.1), r.2)

pub any_none : (n : ℕ) (f : ℕ → Bool) → ((i : ℕ) → i < n → f i ≡ false) → any n f ≡ false
any_none n f h = never (any n f) (λ t. let r = any_find n f t in clash (f r.0) (h r.0 r.1) r.2)

-- two tests that agree at each number below n
pub any_cong : (n : ℕ) (f g : ℕ → Bool) → ((i : ℕ) → i < n → f i ≡ g i) → any n f ≡ any n g
unfolding any
any_cong zero f g h = refl
any_cong (suc n) f g h = rw (h n (omega arith), any_cong n f g (λ i l. h i (omega arith)))

-- the numbers below a, and the b numbers from a on
pub any_join : (a b : ℕ) (f : ℕ → Bool) → (any a f || any b (λ j. f (a + j))) ≡ any (a + b) f
unfolding any
any_join a zero f = rw (add-zero a) (or-false (any a f))
any_join a (suc b) f =
    rw (add-suc a b)
    (sym (or_assoc (any a f) (any b (λ j. f (a + j))) (f (a + b))) ∙ ap (λ (t : Bool). t || f (a + b)) (any_join a b f))

-- where a test holds only from a up to b, the rest may be left out
pub any_range : (n a b : ℕ) (f : ℕ → Bool) → b ≤ n → ((i : ℕ) → i < n → f i ≡ true → (a ≤ i) × (i < b))
    → any (b - a) (λ j. f (a + j)) ≡ any n f
any_range n a b f lb h =
    bool_iff _ _
    (λ t.
    let r = any_find (b - a) (λ j. f (a + j)) t in
    let l : r.0 < b - a = r.1 in any_make n f (a + r.0) (omega arith) r.2)
    (λ t.
    let r = any_find n f t in
    let w = h r.0 r.1 r.2 in
    let q : a + (r.0 - a) ≡ r.0 = omega (arith, w.0) in
    any_make (b - a) (λ j. f (a + j)) (r.0 - a) (omega (arith, w.0, w.1)) (ap f q ∙ r.2))

-- and then at none of them
pub none_at : (n : ℕ) (f : ℕ → Bool) → any n f ≡ false → (i : ℕ) → i < n → f i ≡ false
none_at n f e i l = never (f i) (λ t. clash (any n f) e (any_make n f i l t))
