-- An answered pixel has passed both tests, so it is the nearest one, and the nearest is the only one within half a pixel. Where
-- no pixel is so near, the tests have failed.
use Prim.Native.Nat.{ℕ, suc, ◌<◌}
use mathlib.Core.Path.{◌≡◌, refl, sym, ap, ◌∙◌}
use mathlib.Core.Logic.{⊎_elim}
use mathlib.Core.List.{[], ◌∷◌}
use mathlib.Core.Bool.{true, false}
use Rattle.std.specs.Prelude.{Option, None, Some}
use lib.IntN.{ℤ}
use lib.Ieee.{Float, nan, inf, fin}
use lib.Ieee.Fits.{down_pos}
use lib.Ieee.Scale.{finite}
use lib.Dec.{lit<}
use Rattle.coordinate.specs.Coordinate.{out_of_range}
use Rattle.coordinate.specs.Nearest.{NearestFacts}
use Rattle.coordinate.specs.declared.pixel.Pixel.{Pixel}
use Rattle.coordinate.proofs.Nearest.{nearest_facts}
use Rattle.refusal.specs.Refusal.{given, refused, answer, first_met}
use Rattle.refusal.proofs.Handing.{given_by}
use Rattle.refusal.proofs.Conditions.{met as first, unmet}
use Rattle.counting.proofs.Boolean.{tell}
use Rattle.pen.specs.Worth.{numerator, denominator, nearest_to}
use Rattle.pen.specs.Touching.{not_finite, rounded_out, point_conditions, pixel_of, touch_answer}
use Rattle.pen.specs.PenFacts.{RoundsTo, HalfPixel, PixelFacts, RefusalFacts}
use Rattle.pen.specs.declared.report.Point.{Point}
use Rattle.pen.specs.declared.report.Report.TheVariants.{Touching}
use Rattle.pen.proofs.Conditions.{both_in, roundable, pass_point, all_finite, column_meets, row_meets}

denominator_pos : (x : Float) → 0 < denominator x
unfolding denominator
denominator_pos nan = lit< tt
denominator_pos (inf s) = lit< tt
denominator_pos (fin s m e) = down_pos e

-- the nearest whole number, by itself
facts : (x : Float) → NearestFacts (numerator x) (denominator x)
facts x = nearest_facts (numerator x) (denominator x) (denominator_pos x)

rounds_to : (x : Float) → finite x ≡ true → out_of_range (nearest_to x) ≡ false → RoundsTo x (nearest_to x)
unfolding nearest_to
rounds_to x f r = record { is_finite = f; in_range = r; within = (facts x).within }

half_pixel_of : (x : Float) → HalfPixel x (nearest_to x)
unfolding nearest_to
half_pixel_of x = record { half_pixel = (facts x).half }

only_one : (x : Float) (n : ℤ) → RoundsTo x n → n ≡ nearest_to x
unfolding nearest_to
only_one x n r = (facts x).only n r.within

value : Option Pixel → Pixel → Pixel
value None other = other
value (Some p) other = p

module _ (p : Point) (q : Pixel) where
  told : touch_answer (Touching p) ≡ given (Some q) → (first_met (point_conditions p) ≡ 0) × (Some q ≡ Some (pixel_of p))
  told e = given_by (first_met (point_conditions p)) (Some q) (Some (pixel_of p)) (sym e)

  same : touch_answer (Touching p) ≡ given (Some q) → q ≡ pixel_of p
  unfolding value
  same e = ap (λ (o : Option Pixel). value o q) (told e).1

  answered : touch_answer (Touching p) ≡ given (Some q) → RoundsTo p.column q.column × RoundsTo p.row q.row
  answered e =
      let r = roundable p (told e).0 in
      rw (same e) (rounds_to p.column r.column_finite r.column_in, rounds_to p.row r.row_finite r.row_in)

  halves : touch_answer (Touching p) ≡ given (Some q) → HalfPixel p.column q.column × HalfPixel p.row q.row
  halves e = rw (same e) (half_pixel_of p.column, half_pixel_of p.row)

  passes : RoundsTo p.column q.column → RoundsTo p.row q.row → first_met (point_conditions p) ≡ 0
  passes a b =
      pass_point p a.is_finite b.is_finite
      (ap out_of_range (sym (only_one p.column q.column a)) ∙ a.in_range)
      (ap out_of_range (sym (only_one p.row q.row b)) ∙ b.in_range)

  met : RoundsTo p.column q.column → RoundsTo p.row q.row → touch_answer (Touching p) ≡ given (Some q)
  met a b = rw (passes a b, ← only_one p.column q.column a, ← only_one p.row q.row b)

  pub pixel_facts : PixelFacts p q
  pixel_facts = record { rounds = answered; near = halves; only = met }

-- ---- refusals

module _ (p : Point) where
  numbered : (n : ℕ) → first_met (point_conditions p) ≡ suc n → touch_answer (Touching p) ≡ refused (suc n)
  numbered n e = ap (λ (k : ℕ). answer k (Some (pixel_of p))) e

  thirteen : not_finite p ≡ true → touch_answer (Touching p) ≡ refused 13
  thirteen e = numbered 12 (first 13 (not_finite p) ((14, rounded_out p) ∷ []) e)

  fourteen : finite p.column ≡ true → finite p.row ≡ true
      → ((q : Pixel) → RoundsTo p.column q.column → RoundsTo p.row q.row → ⊥) → touch_answer (Touching p) ≡ refused 14
  fourteen f g none-rounds = ⊎_elim out in_both (tell (rounded_out p))
    where
      out : rounded_out p ≡ true → touch_answer (Touching p) ≡ refused 14
      out e = numbered 13 (unmet 13 (not_finite p) _ (all_finite p f g) ∙ first 14 (rounded_out p) [] e)

      in_both : rounded_out p ≡ false → touch_answer (Touching p) ≡ refused 14
      in_both e =
          let r = both_in p e in
          absurd (none-rounds (pixel_of p) (rounds_to p.column f r.0) (rounds_to p.row g r.1))

  pub refusal_facts : RefusalFacts p
  refusal_facts =
      record {
        column_thirteen = λ e. thirteen (column_meets p e);
        row_thirteen = λ e. thirteen (row_meets p e);
        fourteen = fourteen;
        hovering = refl;
        lifted = refl;
      }
