-- The pixels of a line and of the nudged one are within a nudge's distance of the line, so that a drawing of either is alike to
-- its start but there, and both are alike to each other.
use Prim.Native.Nat.{ℕ, suc, ◌≤◌}
use mathlib.Core.Path.{◌≡◌, refl, sym, ap, ap₂, ◌∙◌}
use mathlib.Core.Bool.{Bool, true, false, ◌&&◌}
use mathlib.Core.List.{List}
use native.Mathlib.Omega.{arith}
use lib.IntN.{ℤ}
use borrow.Author.Tests.{le-leb}
use Rattle.counting.proofs.Boolean.{clash, never, and_both, both_and}
use Rattle.counting.proofs.Any.{any_find, any_make}
use Rattle.coordinate.specs.Coordinate.{apart, same}
use Rattle.coordinate.specs.declared.pixel.Pixel.{Pixel}
use Rattle.coordinate.proofs.Difference.{diff_parts, diff_apart, same_eq}
use Rattle.raster.specs.declared.window.Window.{Window}
use Rattle.raster.proofs.Alike.{alike_both}
use Rattle.drawing.proofs.Alike.{whole_alike, band_alike, bands_alike}
use Rattle.line.specs.Line.{long, pixel, on_line, long_of, across_of}
use Rattle.line.specs.Nudge.{Nudged, nudge, reach, near_step, near_line, ChangesLittle}
use Rattle.line.specs.Shorthand.{at}
use Rattle.line.specs.declared.ends.Ends.{Ends}
use Rattle.line.proofs.Drawable.{line_drawable}
use Rattle.line.proofs.Nudge.{moves_little}

-- one of the line's pixels is that of a step
on_step : (e : Ends) (column row : ℤ) → on_line e column row ≡ true → (i : ℕ) × (i ≤ long e) × (pixel e i ≡ at column row)
unfolding on_line
on_step e column row t =
    let found = any_find (suc (long e)) (λ i. same (pixel e i).column column && same (pixel e i).row row) t in
    let p = pixel e found.0 in
    let u = and_both (same p.column column) (same p.row row) found.2 in
    (found.0, omega (arith, found.1), ap₂ at ((same_eq p.column column).0 u.0) ((same_eq p.row row).0 u.1))

-- ---- a line g whose pixels are as little away from those of e

module _ (e : Ends) (d : ℕ) (g : Ends) (long_is : long g ≡ long e)
    (stays : (i : ℕ) → long_of e (pixel g i) ≡ long_of e (pixel e i))
    (moves : (i : ℕ) → apart (across_of e (pixel e i)) (across_of e (pixel g i)) ≤ reach e d i) where
  near_step_lem : (i : ℕ) (p : Pixel) → pixel g i ≡ p → near_step e d i p ≡ true
  unfolding near_step
  near_step_lem i p q =
      both_and _ _
      ((same_eq (long_of e (pixel e i)) (long_of e p)).1 (sym (stays i) ∙ ap (long_of e) q))
      (le-leb (apart (across_of e (pixel e i)) (across_of e p)) _ (omega (arith, moves i, ap (λ (r : Pixel). apart (across_of e (pixel e i)) (across_of e r)) q)))

  near : (column row : ℤ) → on_line g column row ≡ true → near_line e d column row ≡ true
  unfolding near_line
  near column row t =
      let step = on_step g column row t in
      any_make (suc (long e)) _ step.0 (omega (arith, step.1, long_is)) (near_step_lem step.0 (at column row) step.2)

  off : (column row : ℤ) → near_line e d column row ≡ false → on_line g column row ≡ false
  off column row q = never (on_line g column row) (λ t. clash (near_line e d column row) q (near column row t))

-- ---- both lines

none_apart : (z : ℤ) → apart z z ≡ 0
none_apart z = omega (arith, diff_apart z z _ _ _ _ (diff_parts z) (diff_parts z))

module _ (e f : Ends) (n : Nudged e f) where
  -- a pixel that is not near the line is neither line's
  pub off_first : (column row : ℤ) → near_line e (nudge e f) column row ≡ false → on_line e column row ≡ false
  off_first = off e (nudge e f) e refl (λ i. refl) (λ i. omega (arith, none_apart (across_of e (pixel e i))))

  pub off_second : (column row : ℤ) → near_line e (nudge e f) column row ≡ false → on_line f column row ≡ false
  off_second = let m = moves_little e f n in off e (nudge e f) f m.long_is m.long_stays m.short_moves

  module _ (w : Window) (s : List ℕ) where
    abbrev near_e : ℤ → ℤ → Bool
    near_e = near_line e (nudge e f)

    pub changes_little : ChangesLittle near_e e f w s
    changes_little =
        record {
          whole = alike_both w near_e s _ _ (whole_alike _ (line_drawable e) w near_e off_first s) (whole_alike _ (line_drawable f) w near_e off_second s);
          in_band =
              λ b. alike_both w near_e s _ _ (band_alike _ (line_drawable e) w near_e off_first s b) (band_alike _ (line_drawable f) w near_e off_second s b);
          by_calls =
              λ bands.
              alike_both w near_e s _ _ (bands_alike _ (line_drawable e) w near_e off_first s bands) (bands_alike _ (line_drawable f) w near_e off_second s bands);
        }
