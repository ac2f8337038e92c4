-- How many pixels of some rows have a predicate adds up row by row, and so does the count of every figure, which is a sum of such
-- numbers.
use Prim.Native.Nat.{ℕ, ◌+◌}
use mathlib.Core.Path.{◌≡◌, refl, sym, ap, ◌∙◌}
use mathlib.Core.Bool.{Bool}
use native.Mathlib.Omega.{arith}
use lib.IntN.{ℤ, pos, ◌+ℤ◌}
use Rattle.counting.specs.Count.{any, count, sum}
use Rattle.counting.proofs.Summed.{sum_cong, sum_both, sum_join}
use Rattle.coordinate.proofs.Shift.{shift_twice}
use Rattle.refusal.specs.Refusal.{Numbered}
use Rattle.raster.specs.Band.{band_window}
use Rattle.raster.specs.declared.window.Window.{Window}
use Rattle.drawing.specs.Figure.{Figure, several, pixels_in, EachOnce, Drawable}

module _ (w : Window) (P : ℤ → ℤ → Bool) (first n m : ℕ) where
  -- in a row of the window that begins at the band's first row
  abbrev row_count : ℕ → ℕ
  row_count r = count w.width (λ c. P (w.left +ℤ pos c) (w.top +ℤ pos r))

  in_band : (f k : ℕ) → pixels_in (band_window w f k) P ≡ sum k (λ r. row_count (f + r))
  in_band f k = sum_cong k _ _ (λ r l. ap (λ (y : ℤ). count w.width (λ c. P (w.left +ℤ pos c) y)) (shift_twice w.top f r))

  pixels_add : pixels_in (band_window w first (n + m)) P ≡ pixels_in (band_window w first n) P + pixels_in (band_window w (first + n) m) P
  pixels_add =
      let after : sum m (λ r. row_count (first + (n + r))) ≡ sum m (λ r. row_count ((first + n) + r)) =
      sum_cong m _ _ (λ r l. ap row_count (omega arith)) in
      omega (arith, in_band first (n + m), in_band first n, in_band (first + n) m, sum_join n m (λ r. row_count (first + r)), after)

-- a figure's pixels in some rows of a window and those in the rows below them are those in all of these rows
pub rows_add : (f : Figure) → Drawable f → (w : Window) (first n m : ℕ)
    → f.count (band_window w first (n + m)) ≡ f.count (band_window w first n) + f.count (band_window w (first + n) m)
rows_add f d w first n m =
    d.count_is (band_window w first (n + m))
    ∙ sum_both d.parts _ _ _ (λ k l. pixels_add w (d.part k) first n m)
    ∙ sym (omega (arith, d.count_is (band_window w first n), d.count_is (band_window w (first + n) m)))

-- a single figure is one set of pixels
pub single_drawable : (f : Figure) → Numbered f.refusals → EachOnce f → Drawable f
unfolding any sum
single_drawable f numbered once =
    record {
      numbered = numbered;
      parts = 1;
      part = λ k. f.has;
      has_is = λ column row. refl;
      count_is = λ w. once w ∙ omega arith;
    }

-- and several of them are as many
pub several_drawable : (n : ℕ) (figures : ℕ → Figure) → ((k : ℕ) → EachOnce (figures k)) → Drawable (several n figures)
several_drawable n figures once =
    record {
      numbered = tt;
      parts = n;
      part = λ k. (figures k).has;
      has_is = λ column row. refl;
      count_is = λ w. sum_cong n _ _ (λ k l. once k w);
    }
