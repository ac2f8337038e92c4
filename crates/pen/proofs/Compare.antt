-- A float of a known worth compares with k / 2 as the fractions do: multiplied by a common denominator, over natural numbers.
use Prim.Native.Nat.{ℕ, ◌+◌, ◌*◌, ◌<◌}
use mathlib.Core.Path.{◌≡◌, refl, sym, ap, ◌∙◌}
use mathlib.Core.Bool.{Bool, true, false, not, ◌&&◌, ◌||◌, true≢false}
use mathlib.Core.Logic.{⊎_elim}
use native.Mathlib.Nat.{add_comm, mul_right_comm, mul-one, add-mul, eq-or-lt_of_le, mul-lt-mul_of_pos_right, lt_of_mul-lt-mul_right}
use native.Mathlib.Omega.{arith}
use lib.IntN.{negsuc}
use lib.Dec.{ltb, eqb}
use lib.Ieee.{Float, nan, inf, fin, up, down, below, level, lt, eq, le}
use lib.Ieee.Fits.{down_pos}
use lib.Ieee.Exact.{HasValue}
use lib.Ieee.Scale.{finite}
use borrow.Author.Tests.{ltb-true, ltb-false, lt-ltb, le-ltb, eqb-true, eq-eqb, ne_eqb}
use Rattle.counting.proofs.Boolean.{tell, never, and_both, both_and, ltb_iff, eqb_iff}

-- two numbers and the same two in another unit, c of one being g of the other
module _ (a b a' b' c g : ℕ) (C : 0 < c) (G : 0 < g) (p : a * c ≡ a' * g) (q : b * c ≡ b' * g) where
  less_scaled : ltb a b ≡ ltb a' b'
  less_scaled =
      ltb_iff a b a' b'
      (λ h. lt_of_mul-lt-mul_right g (omega (arith, mul-lt-mul_of_pos_right h C)))
      (λ h. lt_of_mul-lt-mul_right c (omega (arith, mul-lt-mul_of_pos_right h G)))

below_scaled : (s t : Bool) (a b a' b' c g : ℕ) → 0 < c → 0 < g → a * c ≡ a' * g → b * c ≡ b' * g → below s a t b ≡ below s a' t b'
below_scaled false false a b a' b' c g C G p q = less_scaled a b a' b' c g C G p q
below_scaled false true a b a' b' c g C G p q = refl
below_scaled true false a b a' b' c g C G p q =
    less_scaled 0 (a + b) 0 (a' + b') c g C G (omega arith) (omega (arith, add-mul a b c, add-mul a' b' g))
below_scaled true true a b a' b' c g C G p q = less_scaled b a b' a' c g C G q p

-- ± a / c against ± k / 2
pub below_half : (y : Float) (s : Bool) (a c : ℕ) → 0 < c → HasValue y s a c → (t : Bool) (k : ℕ)
    → lt y (fin t k (negsuc 0)) ≡ below s (a * 2) t (k * c)
unfolding lt
below_half nan s a c C v t k = absurd v
below_half (inf u) s a c C v t k = absurd v
below_half (fin u m e) s a c C v t k =
    ap (λ (z : Bool). below z (m * up e * 2) t (k * 1 * down e)) v.0
    ∙ below_scaled s t (m * up e * 2) (k * 1 * down e) (a * 2) (k * c) c (down e) C (down_pos e)
    (mul_right_comm (m * up e) 2 c ∙ ap (λ (z : ℕ). z * 2) v.1 ∙ mul_right_comm a (down e) 2)
    (ap (λ (z : ℕ). z * down e * c) (mul-one k) ∙ mul_right_comm k (down e) c)

-- of two finite floats one is at least the other where it is not below it
or_equal : (a b : ℕ) → (ltb a b || (eqb a b && true)) ≡ not (ltb b a)
or_equal a b = ⊎_elim larger (λ e. ⊎_elim (same e) (smaller e) (eq-or-lt_of_le (ltb-false b a e))) (tell (ltb b a))
  where
    larger : ltb b a ≡ true → (ltb a b || (eqb a b && true)) ≡ not (ltb b a)
    larger e = let l = ltb-true b a e in rw (e, le-ltb a b (omega arith), ne_eqb a b (λ q. omega arith))

    same : ltb b a ≡ false → a ≡ b → (ltb a b || (eqb a b && true)) ≡ not (ltb b a)
    same e q = rw (e, le-ltb a b (omega arith), eq-eqb a b q)

    smaller : ltb b a ≡ false → a < b → (ltb a b || (eqb a b && true)) ≡ not (ltb b a)
    smaller e l = rw (e, lt-ltb a b l)

both_zero : (a b : ℕ) → (eqb a b && eqb a 0) ≡ not (ltb 0 (b + a))
both_zero a b = ⊎_elim some none (tell (ltb 0 (b + a)))
  where
    some : ltb 0 (b + a) ≡ true → (eqb a b && eqb a 0) ≡ not (ltb 0 (b + a))
    some e =
        let l = ltb-true 0 (b + a) e in
        rw e
        (never (eqb a b && eqb a 0)
        (λ t. let z = and_both (eqb a b) (eqb a 0) t in omega (arith, eqb-true a b z.0, eqb-true a 0 z.1)))

    none : ltb 0 (b + a) ≡ false → (eqb a b && eqb a 0) ≡ not (ltb 0 (b + a))
    none e =
        let l = ltb-false 0 (b + a) e in
        rw e (both_and (eqb a b) (eqb a 0) (eq-eqb a b (omega arith)) (eq-eqb a 0 (omega arith)))

or_not : (t u : Bool) → u ≡ not t → (t || u) ≡ true
or_not true u e = refl
or_not false u e = e

or_zero : (a b : ℕ) → (ltb 0 (a + b) || (eqb a b && eqb a 0)) ≡ true
or_zero a b = or_not (ltb 0 (a + b)) (eqb a b && eqb a 0) (both_zero a b ∙ ap (λ (k : ℕ). not (ltb 0 k)) (add_comm b a))

least : (s : Bool) (a : ℕ) (t : Bool) (b : ℕ) → (below s a t b || level s a t b) ≡ not (below t b s a)
least false a false b = or_equal a b
least false a true b = both_zero a b
least true a false b = or_zero a b
least true a true b = rw (eqb_iff a b b a sym sym) (or_equal b a)

pub at_least : (x y : Float) → finite x ≡ true → finite y ≡ true → le x y ≡ not (lt y x)
unfolding le lt eq
at_least nan y f g = absurd (true≢false (sym f))
at_least (inf s) y f g = absurd (true≢false (sym f))
at_least (fin s m e) nan f g = absurd (true≢false (sym g))
at_least (fin s m e) (inf t) f g = absurd (true≢false (sym g))
at_least (fin s m e) (fin t n d) f g = least s (m * up e * down d) t (n * up d * down e)
