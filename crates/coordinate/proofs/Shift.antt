-- Coordinates counted from one place compare as the counts do.
use Prim.Native.Nat.{ℕ, ◌+◌}
use mathlib.Core.Path.{◌≡◌, ap₂, ◌∙◌}
use mathlib.Core.Bool.{◌&&◌}
use native.Mathlib.Omega.{arith}
use lib.IntN.{ℤ, pos, ◌+ℤ◌, +ℤ_assoc}
use lib.Signed.{lt_z, le_z}
use lib.Dec.{ltb, leb, eqb}
use borrow.Author.Tests.{ltb-true, lt-ltb, leb-true, le-leb, eqb-true, eq-eqb}
use Rattle.counting.proofs.Boolean.{bool_iff, and_both, both_and}
use Rattle.coordinate.specs.Coordinate.{same}
use Rattle.coordinate.proofs.Difference.{Diff, above, below, diff_parts, diff_plus, diff_le, diff_lt}

-- in two moves or in one
pub shift_twice : (z : ℤ) (a b : ℕ) → (z +ℤ pos a) +ℤ pos b ≡ z +ℤ pos (a + b)
shift_twice z a b = +ℤ_assoc z (pos a) (pos b)

module _ (z : ℤ) (a b : ℕ) where
  at_a : Diff (z +ℤ pos a) (above z + a) (below z)
  at_a = diff_plus z _ _ a (diff_parts z)

  at_b : Diff (z +ℤ pos b) (above z + b) (below z)
  at_b = diff_plus z _ _ b (diff_parts z)

  pub shift_le : le_z (z +ℤ pos a) (z +ℤ pos b) ≡ leb a b
  shift_le =
      let law = diff_le (z +ℤ pos a) (z +ℤ pos b) _ _ _ _ at_a at_b in
      bool_iff _ _ (λ t. le-leb a b (omega (arith, law.0 t))) (λ t. law.1 (omega (arith, leb-true a b t)))

  pub shift_lt : lt_z (z +ℤ pos a) (z +ℤ pos b) ≡ ltb a b
  shift_lt =
      let law = diff_lt (z +ℤ pos a) (z +ℤ pos b) _ _ _ _ at_a at_b in
      bool_iff _ _ (λ t. lt-ltb a b (omega (arith, law.0 t))) (λ t. law.1 (omega (arith, ltb-true a b t)))

order_same : (a b : ℕ) → (leb a b && leb b a) ≡ eqb a b
order_same a b =
    bool_iff _ _
    (λ t. let p = and_both (leb a b) (leb b a) t in eq-eqb a b (omega (arith, leb-true a b p.0, leb-true b a p.1)))
    (λ t. let e = eqb-true a b t in both_and _ _ (le-leb a b (omega arith)) (le-leb b a (omega arith)))

pub shift_same : (z : ℤ) (a b : ℕ) → same (z +ℤ pos a) (z +ℤ pos b) ≡ eqb a b
shift_same z a b = ap₂ ◌&&◌ (shift_le z a b) (shift_le z b a) ∙ order_same a b
