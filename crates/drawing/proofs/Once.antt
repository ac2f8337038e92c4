-- Pixels that differ are as many pixels of the window as there are of them: one more of them lies in the window or not, and none of
-- the others has its place.
use Prim.Native.Nat.{ℕ, zero, suc, ◌+◌, ◌<◌}
use mathlib.Core.Path.{◌≡◌, refl, sym, ap, ap₂, ◌∙◌}
use mathlib.Core.Bool.{Bool, true, false, ◌&&◌, ◌||◌, and-true, and-false}
use native.Mathlib.Omega.{arith}
use lib.IntN.{ℤ, pos, ◌+ℤ◌}
use lib.Dec.{eqb}
use borrow.Author.Tests.{eqb-true, eq-eqb}
use Rattle.counting.specs.Count.{one, any, count}
use Rattle.counting.proofs.Any.{any_find}
use Rattle.counting.proofs.Boolean.{clash, never, and_both, eqb_iff}
use Rattle.counting.proofs.Counted.{count_cong, count_none, count_zero, count_at}
use Rattle.counting.proofs.Summed.{count_both, sum_both, sum_none, sum_zero, sum_at}
use Rattle.coordinate.specs.Coordinate.{apart, same}
use Rattle.coordinate.specs.declared.pixel.Pixel.{Pixel}
use Rattle.coordinate.proofs.Difference.{same_eq}
use Rattle.coordinate.proofs.Shift.{shift_same}
use Rattle.raster.specs.Raster.{in_window}
use Rattle.raster.specs.Bits.{point}
use Rattle.raster.specs.Fresh.{count_pixels}
use Rattle.raster.specs.declared.window.Window.{Window}
use Rattle.raster.proofs.Inside.{Inside, inside, corner_in}
use Rattle.drawing.specs.Figure.{pixels_in}

module _ (w : Window) where
  -- where a count of pixels is 0 the test holds at none
  pub none_counted : (f : ℕ → ℕ → Bool) → count_pixels w f ≡ 0 → (c r : ℕ) → c < w.width → r < w.height → f c r ≡ false
  none_counted f z c r lc lr = count_zero w.width (λ i. f i r) (sum_zero w.height _ z r lr) c lc

  -- a predicate that no pixel of the window has
  no_pixels : (P : ℤ → ℤ → Bool) → ((c r : ℕ) → c < w.width → r < w.height → P (w.left +ℤ pos c) (w.top +ℤ pos r) ≡ false) → pixels_in w P ≡ 0
  no_pixels P h = sum_none w.height _ (λ r lr. count_none w.width _ (λ c lc. h c r lc lr))

-- where one pixel is
module _ (p : Pixel) (x y : ℤ) where
  pub point_is : point p.column p.row x y ≡ true → (p.column ≡ x) × (p.row ≡ y)
  point_is e = let q = and_both (same p.column x) (same p.row y) e in ((same_eq p.column x).0 q.0, (same_eq p.row y).0 q.1)

-- one pixel of the window is one pixel, and one beside it none
module _ (w : Window) (p : Pixel) where
  module _ (i : Inside w p) where
    abbrev c : ℕ
    c = apart w.left p.column

    abbrev r : ℕ
    r = apart w.top p.row

    in_column : (k : ℕ) → same p.column (w.left +ℤ pos k) ≡ eqb k c
    in_column k = ap (λ (z : ℤ). same z (w.left +ℤ pos k)) (sym i.column_is) ∙ shift_same w.left c k ∙ eqb_iff c k k c (λ e. sym e) (λ e. sym e)

    in_row : (j : ℕ) → same p.row (w.top +ℤ pos j) ≡ eqb r j
    in_row j = ap (λ (z : ℤ). same z (w.top +ℤ pos j)) (sym i.row_is) ∙ shift_same w.top r j

    other_row : (j : ℕ) → (j ≡ r → ⊥) → count w.width (λ k. point p.column p.row (w.left +ℤ pos k) (w.top +ℤ pos j)) ≡ 0
    other_row j ne =
        count_none w.width _ (λ k lk.
        ap (λ (t : Bool). same p.column (w.left +ℤ pos k) && t) (in_row j ∙ never (eqb r j) (λ t. ne (sym (eqb-true r j t)))) ∙ and-false _)

    own_row : count w.width (λ k. point p.column p.row (w.left +ℤ pos k) (w.top +ℤ pos r)) ≡ 1
    own_row =
        count_cong w.width _ (λ k. eqb k c)
        (λ k lk. ap₂ (λ (a b : Bool). a && b) (in_column k) (in_row r ∙ eq-eqb r r refl) ∙ and-true (eqb k c))
        ∙ count_at w.width (λ k. true) c i.column_lt

    inside_once : pixels_in w (point p.column p.row) ≡ 1
    inside_once = sum_at w.height _ r i.row_lt (λ j lj ne. other_row j ne) ∙ own_row

  one_pixel : pixels_in w (point p.column p.row) ≡ one (in_window w p)
  one_pixel = go (in_window w p) refl
    where
      go : (t : Bool) → in_window w p ≡ t → pixels_in w (point p.column p.row) ≡ one t
      go true e = inside_once (inside w p e)
      go false e = no_pixels w (point p.column p.row) (λ c r lc lr. never (point p.column p.row (w.left +ℤ pos c) (w.top +ℤ pos r)) (λ t. let q = point_is p (w.left +ℤ pos c) (w.top +ℤ pos r) t in clash (in_window w p) e (corner_in w p c r q.0 q.1 lc lr)))

-- ---- some pixels

either : (a b : Bool) → (a ≡ true → b ≡ true → ⊥) → one (a || b) ≡ one a + one b
either true true h = absurd (h refl refl)
either true false h = refl
either false true h = refl
either false false h = refl

module _ (w : Window) (pixel : ℕ → Pixel) where
  -- the pixel in a column and a row is one of the first n
  abbrev one_of : ℕ → ℤ → ℤ → Bool
  one_of n x y = any n (λ i. point (pixel i).column (pixel i).row x y)

  same_pixel : (i j : ℕ) (x y : ℤ) → point (pixel i).column (pixel i).row x y ≡ true → point (pixel j).column (pixel j).row x y ≡ true → pixel i ≡ pixel j
  same_pixel i j x y s t =
      let a = point_is (pixel i) x y s in
      let b = point_is (pixel j) x y t in
      ap₂ (λ (c r : ℤ). record { column = c; row = r }) (a.0 ∙ sym b.0) (a.1 ∙ sym b.1)

  pub all_differ : (n : ℕ) → ((i j : ℕ) → i < j → j < n → pixel i ≡ pixel j → ⊥) → count n (λ i. in_window w (pixel i)) ≡ pixels_in w (one_of n)
  unfolding any count
  all_differ zero h = sym (no_pixels w (one_of 0) (λ c r lc lr. refl))
  all_differ (suc n) h =
      ap₂ ◌+◌ (all_differ n (λ i j l k. h i j l (omega arith))) (sym (one_pixel w (pixel n)))
      ∙ sym
      (sum_both w.height _ _ _ (λ r lr.
      count_both w.width _ _ _ (λ c lc.
      either _ _ (λ s t.
      let f = any_find n _ s in h f.0 n f.1 (omega arith) (same_pixel f.0 n _ _ f.2 t)))))
