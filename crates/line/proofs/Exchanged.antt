-- Step i from one end is step L − i from the other: the exact short coordinate is the same number there, and so is the whole
-- number nearest to it, whichever end is first.
use Prim.Native.Nat.{ℕ, zero, suc, ◌+◌, ◌-◌, ◌≤◌, ◌<◌}
use mathlib.Core.Path.{◌≡◌, refl, sym, ap, ap₂, ◌∙◌}
use mathlib.Core.Logic.{inl, inr}
use mathlib.Core.Bool.{Bool, true, false, cond, ◌&&◌, ◌||◌, or_comm}
use mathlib.Core.List.{List, [], ◌∷◌}
use native.Mathlib.Omega.{arith}
use lib.IntN.{ℤ, pos, ◌+ℤ◌, ◌-ℤ◌}
use lib.Signed.{lt_z}
use Rattle.counting.specs.Count.{any, count}
use Rattle.counting.proofs.Boolean.{bool_iff}
use Rattle.counting.proofs.Any.{any_find, any_make}
use Rattle.counting.proofs.Counted.{count_cong}
use Rattle.counting.proofs.Summed.{count_back}
use Rattle.coordinate.specs.Coordinate.{out_of_range, apart, same}
use Rattle.coordinate.specs.Nearest.{nearest}
use Rattle.coordinate.specs.declared.pixel.Pixel.{Pixel}
use Rattle.coordinate.proofs.Difference.{Diff, above, below, diff_parts, diff_eq, diff_plus, diff_less, diff_apart, diff_lt, diff_nlt}
use Rattle.raster.specs.Raster.{in_window}
use Rattle.raster.specs.declared.window.Window.{Window}
use Rattle.drawing.specs.Figure.{Figure}
use Rattle.drawing.specs.Drawing.{draw_answer, draw_after, draw_raster}
use Rattle.drawing.specs.Band.{band_answer, band_after}
use Rattle.drawing.specs.Calls.{after_bands, band_calls}
use Rattle.drawing.proofs.Same.{same_figure}
use Rattle.interpolation.specs.Interpolation.{m, Rounding}
use Rattle.interpolation.proofs.Exchanged.{Opposite, m_back}
use Rattle.line.specs.Line.{long, short, axis, toward, interpolated, pixel, on_line, ends_out}
use Rattle.line.specs.Distance.{half, distance}
use Rattle.line.specs.PixelFacts.{first_long, second_long, first_across, second_across}
use Rattle.line.specs.Figure.{line_count, line_figure}
use Rattle.line.specs.Exchanged.{exchanged, SamePixels, SameDrawing}
use Rattle.line.specs.declared.ends.Ends.{Ends}
use Rattle.line.proofs.Exact.{interpolated-nearest, exact_back}
use Rattle.line.proofs.Laid.{laid, pixel_laid, by_axis}
use Rattle.line.proofs.Halves.{half_for, half_is}
use Rattle.line.proofs.Pixels.{short_le, rounding}

-- ---- from b to a

module _ (a b : ℤ) where
  A : Diff a (above a) (below a)
  A = diff_parts a

  B : Diff b (above b) (below b)
  B = diff_parts b

  apart_back : apart b a ≡ apart a b
  apart_back = omega (arith, diff_apart a b _ _ _ _ A B, diff_apart b a _ _ _ _ B A)

  pub toward_back : (i j : ℕ) → i + j ≡ apart a b → toward b a i ≡ toward a b j
  toward_back i j e = go (lt_z b a) (lt_z a b) refl refl
    where
      far : i + j ≡ (above b + below a - (below b + above a)) + (below b + above a - (above b + below a))
      far = omega (arith, diff_apart a b _ _ _ _ A B)

      go : (t u : Bool) → lt_z b a ≡ t → lt_z a b ≡ u → cond u (b -ℤ pos i) (b +ℤ pos i) ≡ cond t (a -ℤ pos j) (a +ℤ pos j)
      go true true p q = absurd (omega (arith, (diff_lt b a _ _ _ _ B A).0 p, (diff_lt a b _ _ _ _ A B).0 q))
      go true false p q =
          diff_eq _ _ _ _ _ _ (diff_plus b _ _ i B) (diff_less a _ _ j A) (omega (arith, far, (diff_lt b a _ _ _ _ B A).0 p))
      go false true p q =
          diff_eq _ _ _ _ _ _ (diff_less b _ _ i B) (diff_plus a _ _ j A) (omega (arith, far, (diff_lt a b _ _ _ _ A B).0 q))
      go false false p q =
          diff_eq _ _ _ _ _ _ (diff_plus b _ _ i B) (diff_plus a _ _ j A)
          (omega (arith, far, (diff_nlt b a _ _ _ _ B A).0 p, (diff_nlt a b _ _ _ _ A B).0 q))

  -- one of the two offsets rounds a half up and the other down, but where there is none
  opposite_halves : (L S : ℕ) → S ≡ apart a b → S ≤ L → Opposite (half_for b a L) (half_for a b L) L S
  opposite_halves L S z s = go (lt_z a b) (lt_z b a) refl refl
    where
      far : S ≡ (above b + below a - (below b + above a)) + (below b + above a - (above b + below a))
      far = omega (arith, diff_apart a b _ _ _ _ A B)

      go : (t u : Bool) → lt_z a b ≡ t → lt_z b a ≡ u → Opposite (cond t (L - 1) L) (cond u (L - 1) L) L S
      go true true p q = absurd (omega (arith, (diff_lt a b _ _ _ _ A B).0 p, (diff_lt b a _ _ _ _ B A).0 q))
      go true false p q = inl (omega (arith, far, (diff_lt a b _ _ _ _ A B).0 p))
      go false true p q = inl (omega (arith, far, (diff_lt b a _ _ _ _ B A).0 q))
      go false false p q = inr (omega (arith, far, (diff_nlt a b _ _ _ _ A B).0 p, (diff_nlt b a _ _ _ _ B A).0 q))

  interpolated_some : (i j : ℕ) → 0 < i + j → interpolated b a (i + j) i ≡ interpolated a b (i + j) j
  interpolated_some i j l =
      interpolated-nearest (i + j) b a i l
      ∙ ap (λ (z : ℤ). nearest z (i + j)) (exact_back a b i j)
      ∙ sym (interpolated-nearest (i + j) a b j l)

  -- a line of one pixel
  interpolated_none : (n i : ℕ) → apart a b ≡ 0 → interpolated b a n i ≡ interpolated a b n i
  interpolated_none n i e = let z : a ≡ b = diff_eq a b _ _ _ _ A B (omega (arith, diff_apart a b _ _ _ _ A B)) in rw z

interpolated_back : (a b : ℤ) (n i j : ℕ) → i + j ≡ n → apart a b ≤ n → interpolated b a n i ≡ interpolated a b n j
interpolated_back a b zero i j e s =
    let x : i ≡ 0 = omega arith in
    let y : j ≡ 0 = omega arith in
    rw (x, y) (interpolated_none a b 0 0 (omega arith))
interpolated_back a b (suc n) i j e s = rw (← e) (interpolated_some a b i j (omega arith))

-- ---- the line from the other end

module _ (e : Ends) where
  long_back_lem : long (exchanged e) ≡ long e
  unfolding long
  long_back_lem = rw (apart_back e.x0 e.x1, apart_back e.y0 e.y1)

  short_back : short (exchanged e) ≡ short e
  unfolding short
  short_back = rw (apart_back e.x0 e.x1, apart_back e.y0 e.y1)

  axis_back : axis (exchanged e) ≡ axis e
  unfolding axis
  axis_back = rw (apart_back e.x0 e.x1, apart_back e.y0 e.y1)

  pixel_back : (i j : ℕ) → i + j ≡ long e → pixel (exchanged e) i ≡ pixel e j
  pixel_back i j q =
      let a = first_across e in
      let b = second_across e in
      let there = pixel_laid (exchanged e) i in
      (rw (axis_back, long_back_lem) at there)
      ∙ ap₂ (laid (axis e))
      (toward_back (first_long e) (second_long e) i j (omega (arith, (by_axis e).0)))
      (interpolated_back a b (long e) i j q (omega (arith, (by_axis e).1, short_le e)))
      ∙ sym (pixel_laid e j)

  pub opposite : Opposite (half (exchanged e)) (half e) (long e) (short e)
  opposite =
      let w = opposite_halves (first_across e) (second_across e) (long e) (short e) (by_axis e).1 (short_le e) in
      let o = half_is (exchanged e) in
      rw (o, axis_back, long_back_lem, half_is e) w

  pub rounding_back : Rounding (half (exchanged e)) (long e)
  rounding_back = rw long_back_lem at (rounding (exchanged e))

  distance_back : (i j : ℕ) → i + j ≡ long e → distance (exchanged e) i + distance e j ≡ short e
  unfolding distance
  distance_back i j q =
      let there = ap₂ (λ (L S : ℕ). m (half (exchanged e)) L S i) long_back_lem short_back in
      omega (arith, m_back rounding_back (rounding e) (short_le e) opposite i j q)

  -- a pixel is one of the line's whichever end is first
  on_back : (column row : ℤ) → on_line (exchanged e) column row ≡ on_line e column row
  unfolding on_line
  on_back column row =
      ap (λ (n : ℕ). any (suc n) there) long_back_lem
      ∙ (bool_iff _ _
      (λ t.
      let f = any_find (suc (long e)) there t in
      any_make (suc (long e)) here (long e - f.0) (omega (arith, f.1))
      (ap spot (sym (pixel_back f.0 (long e - f.0) (omega (arith, f.1)))) ∙ f.2))
      (λ t.
      let f = any_find (suc (long e)) here t in
      any_make (suc (long e)) there (long e - f.0) (omega (arith, f.1))
      (ap spot (pixel_back (long e - f.0) f.0 (omega (arith, f.1))) ∙ f.2)))
    where
      spot : Pixel → Bool
      spot p = same p.column column && same p.row row

      here : ℕ → Bool
      here i = spot (pixel e i)

      there : ℕ → Bool
      there i = spot (pixel (exchanged e) i)

  ends_out_back : ends_out (exchanged e) ≡ ends_out e
  unfolding ends_out
  ends_out_back = or_comm (out_of_range e.x1 || out_of_range e.y1) (out_of_range e.x0 || out_of_range e.y0)

  counts_back : (w : Window) → line_count (exchanged e) w ≡ line_count e w
  unfolding line_count
  counts_back w =
      let here : ℕ → Bool = λ i. in_window w (pixel e i) in
      ap (λ (n : ℕ). count (suc n) (λ i. in_window w (pixel (exchanged e) i))) long_back_lem
      ∙ count_cong (suc (long e)) _ _ (λ i l. ap (in_window w) (pixel_back i (suc (long e) - 1 - i) (omega arith)))
      ∙ count_back (suc (long e)) here

  -- and as the figure that is drawn
  figure_back : line_figure (exchanged e) ≡ line_figure e
  figure_back =
      same_figure (line_figure (exchanged e)) (line_figure e) (ap (λ (out : Bool). (1, out) ∷ []) ends_out_back) on_back counts_back

  -- the same pixels, step by step from the other end
  pub same_pixels : SamePixels e
  same_pixels =
      record {
        long_is = long_back_lem;
        short_is = short_back;
        axis_is = axis_back;
        pixel_is = λ i q. pixel_back i (long e - i) (omega arith);
        distance_is = λ i q. distance_back i (long e - i) (omega arith);
        on_line_lem = on_back;
        ends_out_lem = ends_out_back;
        counts = counts_back;
        figure_is = figure_back;
      }

  pub same_drawing : (w : Window) (s : List ℕ) → SameDrawing e w s
  same_drawing w s =
      record {
        answers = ap (λ (f : Figure). draw_answer f w s) figure_back;
        leaves = ap (λ (f : Figure). draw_after f w s) figure_back;
        raster_is = ap (λ (f : Figure). draw_raster f w s) figure_back;
        band_answers = λ b. ap (λ (f : Figure). band_answer f w s b) figure_back;
        band_leaves = λ b. ap (λ (f : Figure). band_after f w s b) figure_back;
        calls_answer = λ bands. ap (λ (f : Figure). band_calls f w s bands) figure_back;
        calls_leave = λ bands. ap (λ (f : Figure). after_bands f w s bands) figure_back;
      }
