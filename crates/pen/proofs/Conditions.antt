-- What it says of both floats that a point passes its tests.
use mathlib.Core.Path.{◌≡◌, ap, ◌∙◌}
use mathlib.Core.Bool.{Bool, true, false, not, ◌||◌, or-true}
use mathlib.Core.List.{[], ◌∷◌}
use borrow.Author.Tests.{not-false}
use lib.Ieee.Scale.{finite}
use Rattle.counting.proofs.Boolean.{or_neither, neither_or}
use Rattle.coordinate.specs.Coordinate.{out_of_range}
use Rattle.refusal.specs.Refusal.{first_met}
use Rattle.refusal.proofs.Conditions.{unmet, none_met}
use Rattle.pen.specs.Worth.{nearest_to}
use Rattle.pen.specs.Touching.{not_finite, rounded_out, point_conditions}
use Rattle.pen.specs.declared.report.Point.{Point}

module _ (p : Point) where
  pub both_finite : not_finite p ≡ false → (finite p.column ≡ true) × (finite p.row ≡ true)
  unfolding not_finite
  both_finite e =
      let u = or_neither (not (finite p.column)) (not (finite p.row)) e in
      (not-false (finite p.column) u.0, not-false (finite p.row) u.1)

  pub both_in : rounded_out p ≡ false → (out_of_range (nearest_to p.column) ≡ false) × (out_of_range (nearest_to p.row) ≡ false)
  unfolding rounded_out
  both_in e = or_neither (out_of_range (nearest_to p.column)) (out_of_range (nearest_to p.row)) e

  pub passed_point : first_met (point_conditions p) ≡ 0 → (not_finite p ≡ false) × (rounded_out p ≡ false)
  passed_point e =
      let u = none_met 12 (not_finite p) _ e in
      (u.0, (none_met 13 (rounded_out p) _ u.1).0)

  -- so both floats round to coordinates
  pub record Roundable : Type 0 where
    pub column_finite : finite p.column ≡ true
    pub row_finite : finite p.row ≡ true
    pub column_in : out_of_range (nearest_to p.column) ≡ false
    pub row_in : out_of_range (nearest_to p.row) ≡ false

  pub roundable : first_met (point_conditions p) ≡ 0 → Roundable
  roundable e =
      let u = passed_point e in
      let f = both_finite u.0 in
      let r = both_in u.1 in
      record { column_finite = f.0; row_finite = f.1; column_in = r.0; row_in = r.1 }

  -- and back
  pub all_finite : finite p.column ≡ true → finite p.row ≡ true → not_finite p ≡ false
  unfolding not_finite
  all_finite f g = neither_or (not (finite p.column)) (not (finite p.row)) (ap not f) (ap not g)

  pub pass_point : finite p.column ≡ true → finite p.row ≡ true → out_of_range (nearest_to p.column) ≡ false
      → out_of_range (nearest_to p.row) ≡ false → first_met (point_conditions p) ≡ 0
  unfolding rounded_out first_met
  pass_point f g a b =
      unmet 13 (not_finite p) ((14, rounded_out p) ∷ []) (all_finite f g)
      ∙ unmet 14 (rounded_out p) [] (neither_or (out_of_range (nearest_to p.column)) (out_of_range (nearest_to p.row)) a b)

  -- either float meets 13
  pub column_meets : finite p.column ≡ false → not_finite p ≡ true
  unfolding not_finite
  column_meets e = rw e

  pub row_meets : finite p.row ≡ false → not_finite p ≡ true
  unfolding not_finite
  row_meets e = ap (λ (t : Bool). not (finite p.column) || not t) e ∙ or-true (not (finite p.column))
