-- A drawing either marks the pixels of its predicate and counts the unmarked ones among them, or is refused, changes nothing
-- and has no fresh pixels.
use Prim.Native.Nat.{ℕ, zero, suc}
use mathlib.Core.Path.{◌≡◌, refl, sym, ap, ◌∙◌}
use mathlib.Core.Bool.{Bool, not, ◌&&◌, ◌||◌, or_self}
use mathlib.Core.List.{List, [], ◌∷◌}
use native.Mathlib.Omega.{arith}
use native.Mathlib.Nat.{add-zero}
use lib.IntN.{ℤ, pos, ◌+ℤ◌}
use lib.ListN.{length}
use Rattle.counting.proofs.Counted.{count_cong}
use Rattle.counting.proofs.Summed.{sum_cong}
use Rattle.refusal.specs.Refusal.{first_met, answer, unless_refused}
use Rattle.raster.specs.Raster.{plus, marked}
use Rattle.raster.specs.Fresh.{marked_count, fresh_count}
use Rattle.raster.specs.declared.window.Window.{Window}
use Rattle.raster.proofs.Frames.{Shaped}
use Rattle.raster.proofs.Plus.{plus-length}
use Rattle.raster.proofs.Fresh.{marked-plus, fresh_both, fresh_cong}
use Rattle.drawing.specs.Counts.{counts, counts_of, fresh_of, Adds}
use Rattle.drawing.specs.Figure.{Figure, Drawable, EachOnce, pixels_in}
use Rattle.drawing.specs.Drawing.{draw_conditions, draw_counts, draw_raster}
use Rattle.drawing.specs.Band.{band_conditions, band_answer, band_after}
use Rattle.drawing.specs.Calls.{after_bands, fresh_calls}
use Rattle.drawing.specs.FreshPixels.{FreshPixels}
use Rattle.drawing.specs.declared.band.Band.{Band}
use Rattle.drawing.proofs.Limits.{rows_frame}
use Rattle.drawing.proofs.Conditions.{draw_frame, rows_passed}
use Rattle.drawing.proofs.Once.{none_counted}

module _ (w : Window) (s : List ℕ) where
  -- by the first condition met, 0 for none, whatever is counted
  pub adds_by : (n k : ℕ) (P : ℤ → ℤ → Bool) → (n ≡ 0 → Shaped w (length s)) → Adds w s (unless_refused n (plus w s P) s) (fresh_of (answer n (counts k (fresh_count w s P))))
  adds_by zero k P shape = marked-plus w s (shape refl) P
  adds_by (suc n) k P shape = sym (add-zero (marked_count w s))

  -- a second time there is nothing fresh
  fresh_again : Shaped w (length s) → (P : ℤ → ℤ → Bool) → fresh_count w (plus w s P) P ≡ 0
  fresh_again shape P =
      let same : fresh_count w s (λ x y. P x y || P x y) ≡ fresh_count w s P = fresh_cong w s shape _ _ (λ c r lc lr. or_self _) in
      omega (arith, fresh_both w s shape P P, same)

  -- where nothing is marked all pixels are
  fresh_clear : marked_count w s ≡ 0 → (P : ℤ → ℤ → Bool) → fresh_count w s P ≡ pixels_in w P
  unfolding marked_count fresh_count
  fresh_clear z P =
      sum_cong w.height _ _ (λ r lr.
      count_cong w.width _ _ (λ c lc.
      ap (λ (t : Bool). not t && P (w.left +ℤ pos c) (w.top +ℤ pos r)) (none_counted w (marked w s) z c r lc lr)))

module _ (f : Figure) (d : Drawable f) (w : Window) where
  band : (s : List ℕ) (b : Band) → Adds w s (band_after f w s b) (fresh_of (band_answer f w s b))
  band s b =
      adds_by w s (first_met (band_conditions f w (length s) b)) _ _
      (λ h. (rows_frame w (length s) b (rows_passed f d w (length s) b h)).shape)

  bands : (s : List ℕ) (list : List Band) → Adds w s (after_bands f w s list) (fresh_calls f w s list)
  unfolding after_bands fresh_calls
  bands s [] = sym (add-zero (marked_count w s))
  bands s (b ∷ bs) = omega (arith, band s b, bands (band_after f w s b) bs)

  twice : (s : List ℕ) (n : ℕ) → first_met (draw_conditions f w (length s)) ≡ n
      → fresh_of (answer (first_met (draw_conditions f w (length (unless_refused n (draw_raster f w s) s)))) (draw_counts f w (unless_refused n (draw_raster f w s) s))) ≡ 0
  twice s zero h =
      rw (ap (λ (m : ℕ). first_met (draw_conditions f w m)) (plus-length w s f.has) ∙ h) (fresh_again w s (draw_frame f d w (length s) h).shape f.has)
  twice s (suc n) h = rw h refl

  clear : (s : List ℕ) (n : ℕ) → EachOnce f → marked_count w s ≡ 0
      → fresh_of (answer n (draw_counts f w s)) ≡ (counts_of (answer n (draw_counts f w s))).count
  clear s zero once z = fresh_clear w s z f.has ∙ sym (once w)
  clear s (suc n) once z = refl

  pub fresh_pixels : (s : List ℕ) → FreshPixels f w s
  fresh_pixels s =
      record {
        whole = adds_by w s (first_met (draw_conditions f w (length s))) _ _ (λ h. (draw_frame f d w (length s) h).shape);
        by_band = band s;
        by_bands = bands s;
        again = twice s (first_met (draw_conditions f w (length s))) refl;
        on_clear = clear s (first_met (draw_conditions f w (length s)));
      }
