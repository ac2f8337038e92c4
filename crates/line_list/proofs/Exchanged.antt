-- Run k from one end is run S − k from the other: the same steps, counted back, so the same three numbers.
use Prim.Native.Nat.{ℕ, ◌+◌, ◌-◌, ◌*◌, ◌≤◌}
use mathlib.Core.Path.{◌≡◌, refl, sym, ap, ap₂, ◌∙◌}
use mathlib.Core.Bool.{Bool, true, false, cond}
use mathlib.Core.List.{List, ◌++◌, reverse}
use native.Mathlib.Omega.{arith}
use lib.IntN.{ℤ}
use lib.Signed.{lt_z}
use lib.ListN.{length, drop}
use Rattle.counting.specs.Count.{each}
use Rattle.counting.proofs.Each.{each_cong, each_back}
use Rattle.coordinate.specs.Coordinate.{along}
use Rattle.coordinate.specs.declared.axis.Axis.{Axis}
use Rattle.coordinate.proofs.Difference.{diff_parts, diff_eq, diff_lt, diff_nlt}
use Rattle.interpolation.specs.Runs.{run_first, run_pixels}
use Rattle.interpolation.proofs.Exchanged.{first_back, pixels_back}
use Rattle.refusal.specs.Refusal.{given, first_met}
use Rattle.raster.specs.declared.window.Window.{Window}
use Rattle.drawing.specs.Figure.{Figure}
use Rattle.drawing.specs.Drawing.{draw_counts, draw_raster, draw_conditions}
use Rattle.runs.specs.Run.{Run, run_list}
use Rattle.line.specs.Line.{long, short, toward, long_of, across_of}
use Rattle.line.specs.Distance.{half, pixel_at}
use Rattle.line.specs.PixelFacts.{first_long, second_long, first_across, second_across}
use Rattle.line.specs.Figure.{line_figure}
use Rattle.line.specs.Exchanged.{exchanged}
use Rattle.line.specs.declared.ends.Ends.{Ends}
use Rattle.line.proofs.Laid.{long-at, across_at, by_axis}
use Rattle.line.proofs.Pixels.{short_le, rounding}
use Rattle.line.proofs.Exchanged.{toward_back, opposite, rounding_back, same_pixels}
use Rattle.line_list.specs.Runs.{lies, lower, first_step, pixels_of, run, runs}
use Rattle.line_list.specs.Listing.{line_list}
use Rattle.line_list.specs.RunFacts.{ListedAndPainted}
use Rattle.line_list.specs.Exchanged.{RunsReversed, ListReversed, ReversedPainted}
use Rattle.line_list.proofs.RunPixels.{runs-each, lengths}
use Rattle.line_list.proofs.RunFacts.{listed_and_painted}

lower_back : (x y : ℤ) → lower x y ≡ lower y x
lower_back x y = go (lt_z y x) (lt_z x y) refl refl
  where
    go : (t u : Bool) → lt_z y x ≡ t → lt_z x y ≡ u → cond t y x ≡ cond u x y
    go true true p q = absurd (omega (arith, (diff_lt y x _ _ _ _ (diff_parts y) (diff_parts x)).0 p, (diff_lt x y _ _ _ _ (diff_parts x) (diff_parts y)).0 q))
    go true false p q = refl
    go false true p q = refl
    go false false p q =
        diff_eq x y _ _ _ _ (diff_parts x) (diff_parts y)
        (omega (arith, (diff_nlt y x _ _ _ _ (diff_parts y) (diff_parts x)).0 p, (diff_nlt x y _ _ _ _ (diff_parts x) (diff_parts y)).0 q))

same-run : (r s : Run) → r.across ≡ s.across → r.lowest ≡ s.lowest → r.pixels ≡ s.pixels → r ≡ s
same-run r s a b c =
    ap₂ (λ (x y : ℤ). lies x y r.pixels) a b ∙ ap (lies s.across s.lowest) c

module _ (e : Ends) where
  -- a pixel's coordinates, counted from the other end
  long_back_lem : (i j k l : ℕ) → i + j ≡ long e → long_of (exchanged e) (pixel_at (exchanged e) i k) ≡ long_of e (pixel_at e j l)
  long_back_lem i j k l q =
      long-at (exchanged e) i k
      ∙ ap (λ (a : Axis). toward (along a e.x1 e.y1) (along a e.x0 e.y0) i) (same_pixels e).axis_is
      ∙ toward_back (first_long e) (second_long e) i j (omega (arith, (by_axis e).0))
      ∙ sym (long-at e j l)

  across_back : (i j k l : ℕ) → k + l ≡ short e → across_of (exchanged e) (pixel_at (exchanged e) i k) ≡ across_of e (pixel_at e j l)
  across_back i j k l q =
      across_at (exchanged e) i k
      ∙ ap (λ (a : Axis). toward (along a e.y1 e.x1) (along a e.y0 e.x0) k) (same_pixels e).axis_is
      ∙ toward_back (first_across e) (second_across e) k l (omega (arith, (by_axis e).1))
      ∙ sym (across_at e j l)

  module _ (k l : ℕ) (q : k + l ≡ short e) where
    pixels_are : pixels_of (exchanged e) k ≡ pixels_of e l
    pixels_are =
        ap₂ (λ (L S : ℕ). run_pixels (half (exchanged e)) L S k) (same_pixels e).long_is (same_pixels e).short_is
        ∙ sym (pixels_back (rounding_back e) (rounding e) (short_le e) (opposite e) l k (omega arith))

    first_are : first_step (exchanged e) k + first_step e (l + 1) ≡ long e + 1
    first_are =
        let x = ap₂ (λ (L S : ℕ). run_first (half (exchanged e)) L S k) (same_pixels e).long_is (same_pixels e).short_is in
        omega (arith, first_back (rounding_back e) (rounding e) (short_le e) (opposite e) (l + 1) k (omega arith))

    some : 1 ≤ pixels_of e l
    some = ((lengths e).runs l).1 (omega arith)

    lowest_are : (run (exchanged e) k).lowest ≡ (run e l).lowest
    unfolding run
    lowest_are =
        let first = first_step (exchanged e) k in
        let first' = first_step e l in
        let n = pixels_of (exchanged e) k in
        let n' = pixels_of e l in
        let f : first + (first' + n' - 1) ≡ long e = omega (arith, first_are, (lengths e).follows l, some) in
        let g : first + n - 1 + first' ≡ long e = omega (arith, first_are, (lengths e).follows l, some, pixels_are) in
        ap₂ lower (long_back_lem first (first' + n' - 1) k l f) (long_back_lem (first + n - 1) first' k l g)
        ∙ lower_back (long_of e (pixel_at e (first' + n' - 1) l)) (long_of e (pixel_at e first' l))

    run_back : run (exchanged e) k ≡ run e l
    unfolding run
    run_back = same-run _ _ (across_back (first_step (exchanged e) k) (first_step e l) k l q) lowest_are pixels_are

  runs_back : runs (exchanged e) ≡ reverse (runs e)
  runs_back =
      runs-each (exchanged e)
      ∙ ap (λ (n : ℕ). each (n + 1) (run (exchanged e))) (same_pixels e).short_is
      ∙ each_cong (short e + 1) _ _ (λ k q. run_back k (short e + 1 - 1 - k) (omega arith))
      ∙ sym (each_back (short e + 1) (run e))
      ∙ ap reverse (sym (runs-each e))

  pub runs_reversed : RunsReversed e
  runs_reversed = record { run_is = λ k q. run_back k (short e - k) (omega arith); runs_are = search runs_back }

  -- ---- lister and painter

  module _ (list : List ℤ) where
    list_reversed : line_list (exchanged e) list ≡ run_list (reverse (runs e)) ++ drop (3 * (short e + 1)) list
    unfolding line_list
    list_reversed =
        ap₂ (λ (rs : List Run) (n : ℕ). run_list rs ++ drop (3 * (n + 1)) list) runs_reversed.runs_are (same_pixels e).short_is

    pub reversed : ListReversed e list
    reversed =
        let p = same_pixels e in
        record {
          list_is = list_reversed;
          answers = rw (p.ends_out_lem, p.short_is, p.axis_is);
          leaves = rw (p.ends_out_lem, p.short_is, list_reversed);
        }

    module _ (w : Window) (s : List ℕ) where
      painted : first_met (draw_conditions (line_figure e) w (length s)) ≡ 0 → ListedAndPainted (exchanged e) list w s
      painted h = listed_and_painted (exchanged e) list w s (ap (λ (f : Figure). first_met (draw_conditions f w (length s))) (same_pixels e).figure_is ∙ h)

      pub reversed_painted : ReversedPainted e list w s
      reversed_painted =
          let p = same_pixels e in
          record {
            answer_is = λ h. (rw (p.axis_is, p.short_is) at (painted h).answer_is) ∙ ap (λ (f : Figure). given (draw_counts f w s)) p.figure_is;
            raster_is = λ h. (rw (p.axis_is, p.short_is) at (painted h).raster_is) ∙ ap (λ (f : Figure). draw_raster f w s) p.figure_is;
          }
