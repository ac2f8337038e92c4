-- A figure's count in some rows is the sum of its counts in each of them, so bands that take in each row once have the count of the
-- whole.
use Prim.Native.Nat.{ℕ, zero, suc, ◌+◌, ◌-◌, ◌*◌, ◌≤◌}
use mathlib.Core.Path.{◌≡◌, refl, sym, ap, ap₂, ◌∙◌}
use mathlib.Core.Bool.{Bool, true, false, not, cond, ◌&&◌}
use mathlib.Core.List.{List, [], ◌∷◌}
use native.Mathlib.Omega.{arith}
use native.Mathlib.Nat.{zero-add, zero-mul}
use native.Mathlib.Numerals.{add-one}
use lib.IntN.{ℤ, pos, ◌+ℤ◌}
use Rattle.counting.specs.Count.{one, sum}
use Rattle.counting.proofs.Summed.{sum_cong, sum_both, sum_join, sum_none}
use Rattle.coordinate.proofs.Difference.{diff_parts, diff_plus, diff_eq}
use Rattle.refusal.specs.Refusal.{given, refused}
use Rattle.raster.specs.Band.{band_window, in_rows}
use Rattle.raster.specs.declared.window.Window.{Window}
use Rattle.raster.proofs.Band.{row_in, row_above, row_below}
use Rattle.drawing.specs.Counts.{counts_of}
use Rattle.drawing.specs.Figure.{Figure, Drawable}
use Rattle.drawing.specs.Band.{band_out, band_counts, band_answer, band_after}
use Rattle.drawing.specs.Calls.{in_band, count_calls, times_in, EachRowOnce}
use Rattle.drawing.specs.declared.band.Band.{Band}
use Rattle.drawing.specs.declared.counts.Counts.{Counts}
use Rattle.drawing.proofs.Parts.{rows_add}
use Rattle.drawing.proofs.Limits.{band_within}
use Rattle.drawing.proofs.CallLaws.{Lawful, call_answer, after_lawful}

module _ (f : Figure) (d : Drawable f) (w : Window) where
  -- the count in row r
  abbrev in_row : ℕ → ℕ
  in_row r = f.count (band_window w r 1)

  no_rows : (first : ℕ) → f.count (band_window w first 0) ≡ 0
  no_rows first =
      let here : first + 0 ≡ first = omega arith in
      omega (arith, rows_add f d w first 0 0, ap (λ (k : ℕ). f.count (band_window w k 0)) here)

  row_by_row : (first n : ℕ) → f.count (band_window w first n) ≡ sum n (λ j. in_row (first + j))
  unfolding sum
  row_by_row first zero = no_rows first
  row_by_row first (suc n) =
      ap (λ (k : ℕ). f.count (band_window w first k)) (sym (add-one n))
      ∙ rows_add f d w first n 1
      ∙ ap (λ (k : ℕ). k + in_row (first + n)) (row_by_row first n)

  -- the rows of a band among all rows
  module _ (g : ℕ → ℕ) (first n : ℕ) (within : first + n ≤ w.height) where
    abbrev counted : ℕ → ℕ
    counted r = one (in_rows w first n (w.top +ℤ pos r)) * g r

    among : sum n (λ j. g (first + j)) ≡ sum w.height counted
    among =
        let rest : ℕ = w.height - (first + n) in
        let whole : first + (n + rest) ≡ w.height = omega arith in
        let above : sum first counted ≡ 0 = sum_none first counted (λ r l. rw (row_above w first n r l) (zero-mul (g r))) in
        let here : sum n (λ j. counted (first + j)) ≡ sum n (λ j. g (first + j)) =
        sum_cong n _ _ (λ j l. rw (row_in w first n (first + j) (omega arith) (omega arith)) (omega arith)) in
        let below : sum rest (λ j. counted (first + (n + j))) ≡ 0 =
        sum_none rest _ (λ j l. rw (row_below w first n (first + (n + j)) (omega arith)) (zero-mul (g (first + (n + j))))) in
        omega (
          arith,
          above,
          here,
          below,
          sum_join first (n + rest) counted,
          sum_join n rest (λ j. counted (first + j)),
          ap (λ (k : ℕ). sum k counted) whole,
        )

  -- what a call counts, row by row
  abbrev call_row : Band → ℕ → ℕ
  call_row b r = one (in_band w b (w.top +ℤ pos r)) * in_row r

  call_count : (s : List ℕ) → Lawful f d w s → (b : Band) → (counts_of (band_answer f w s b)).count ≡ sum w.height (call_row b)
  call_count s h b = ap (λ (c : Counts). c.count) (ap counts_of (call_answer f d w s h b)) ∙ by (band_out w b) refl
    where
      by : (t : Bool) → band_out w b ≡ t
          → (counts_of (cond t (refused 6) (given (band_counts f w s b)))).count
          ≡ sum w.height (λ r. one (not t && in_rows w b.first b.rows (w.top +ℤ pos r)) * in_row r)
      by true e = sym (sum_none w.height _ (λ r l. zero-mul (in_row r)))
      by false e = row_by_row b.first b.rows ∙ among in_row b.first b.rows (band_within w b e).last

  -- what all calls count
  calls_count : (s : List ℕ) → Lawful f d w s → (bands : List Band)
      → count_calls f w s bands ≡ sum w.height (λ r. times_in w bands (w.top +ℤ pos r) * in_row r)
  unfolding count_calls times_in
  calls_count s h [] = sym (sum_none w.height _ (λ r l. zero-mul (in_row r)))
  calls_count s h (b ∷ bs) =
      ap₂ ◌+◌ (call_count s h b) (calls_count (band_after f w s b) (after_lawful f d w s h b) bs)
      ∙ sym (sum_both w.height _ _ _ (λ r l. omega arith))

  -- the window itself is all its rows
  window_rows : f.count w ≡ sum w.height in_row
  window_rows =
      let top : w.top ≡ w.top +ℤ pos 0 =
      diff_eq w.top (w.top +ℤ pos 0) _ _ _ _ (diff_parts w.top) (diff_plus w.top _ _ 0 (diff_parts w.top)) (omega arith) in
      ap (λ (z : ℤ). f.count (record { left = w.left; top = z; width = w.width; height = w.height })) top
      ∙ row_by_row 0 w.height
      ∙ sum_cong w.height _ _ (λ j l. ap in_row (zero-add j))

  pub once_counted : (s : List ℕ) → Lawful f d w s → (bands : List Band) → EachRowOnce w bands → count_calls f w s bands ≡ f.count w
  once_counted s h bands once =
      calls_count s h bands
      ∙ sum_cong w.height _ _ (λ r l. rw (once r l) (omega arith))
      ∙ sym window_rows
