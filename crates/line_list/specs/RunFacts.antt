-- Document 01, 'The equal-raster rule': a line's runs are its pixels in the line's order, and painting its run list is
-- drawing it; their proofs are in proofs/RunFacts.antt. Assumes nothing.
use Rattle.std.specs.Prelude.{ℕ, ◌+◌, ◌-◌, ◌*◌, ◌≤◌, ◌<◌, ◌≡◌, Bool, false, cond, List, ◌++◌, ℤ, pos, length}
use Rattle.std.specs.Prelude.{None}
use Rattle.std.specs.Int.Signed.{lt_z}
use Rattle.counting.specs.Count.{any, sum}
use Rattle.coordinate.specs.Coordinate.{along}
use Rattle.refusal.specs.Refusal.{given}
use Rattle.raster.specs.declared.window.Window.{Window}
use Rattle.drawing.specs.Drawing.{draw_counts, draw_raster}
use Rattle.runs.specs.Run.{run_list, run_pixel, in_run, run_count}
use Rattle.runs.specs.Painting.{stored_across, stored_lowest, stored_pixels, run_at, run_bad, first_bad, runs_figure, paint_answer, paint_after}
use Rattle.runs.specs.Paints.{Paints}
use Rattle.line.specs.Line.{long, short, axis, pixel, on_line, ends_out}
use Rattle.line.specs.Distance.{distance}
use Rattle.line.specs.Figure.{line_count, line_figure}
use Rattle.line.specs.declared.ends.Ends.{Ends}
use Rattle.line_list.specs.Runs.{first_step, pixels_of, run, runs}
use Rattle.line_list.specs.Listing.{line_list}

-- the long coordinate falls from the first end to the second
unfoldable pub long_falls : Ends → Bool
unfolding axis
long_falls e = along (axis e) (lt_z e.x1 e.x0) (lt_z e.y1 e.y0)

-- number j of n, or number j from the last one back
abbrev pub turned : Bool → ℕ → ℕ → ℕ
turned back n j = cond back (n - 1 - j) j

-- the step whose pixel is j away from the lowest of run k
unfoldable pub step_of : Ends → ℕ → ℕ → ℕ
unfolding long_falls
step_of e k j = first_step e k + turned (long_falls e) (pixels_of e k) j

-- number j of run k is the pixel of step i, which is the line's and has the short distance k
pub record Stepped (e : Ends) (k j i : ℕ) : Type 0 where
  pub within : i ≤ long e
  pub distance_is : distance e i ≡ k
  pub pixel_is : pixel e i ≡ run_pixel (axis e) (run e k) j

-- step i is that of number j of run k, and of no other
pub record Once (e : Ends) (k i j : ℕ) : Type 0 where
  pub within : j < pixels_of e k
  pub step_is : step_of e k j ≡ i
  pub only : (l : ℕ) → l < pixels_of e k → step_of e k l ≡ i → l ≡ j

-- the S + 1 runs are the line's pixels in its order: run k is the steps with m(i) = k, each once, and no step is left out
pub record RunsAreLine (e : Ends) : Type 0 where
  pub number : length (runs e) ≡ short e + 1
  pub pixels_is : (k : ℕ) → (run e k).pixels ≡ pixels_of e k
  pub some : (k : ℕ) → k ≤ short e → 1 ≤ pixels_of e k
  pub steps : (k j : ℕ) → j < pixels_of e k → Stepped e k j (step_of e k j)
  pub once : (i : ℕ) → i ≤ long e → (j : ℕ) × Once e (distance e i) i j
  pub starts : first_step e 0 ≡ 0
  pub follows : (k : ℕ) → first_step e (k + 1) ≡ first_step e k + pixels_of e k
  pub ends : first_step e (short e + 1) ≡ long e + 1

-- a pixel is one of the runs' exactly if it is one of the line's, and the runs' counts in a window add up to the line's
pub record RunsDrawLine (e : Ends) : Type 0 where
  pub marks : (column row : ℤ) → any (short e + 1) (λ k. in_run (axis e) (run e k) column row) ≡ on_line e column row
  pub counts : (w : Window) → sum (short e + 1) (λ k. run_count (axis e) (run e k) w) ≡ line_count e w

-- a list that begins with the line's run list
abbrev pub list_then : Ends → List ℤ → List ℤ
list_then e rest = run_list (runs e) ++ rest

-- the line's run list has three numbers to a run, and each run is read back
pub record ReadBack (e : Ends) (rest : List ℤ) : Type 0 where
  pub length_is : length (run_list (runs e)) ≡ 3 * (short e + 1)
  pub across : (k : ℕ) → k < short e + 1 → stored_across (list_then e rest) k ≡ (run e k).across
  pub lowest : (k : ℕ) → k < short e + 1 → stored_lowest (list_then e rest) k ≡ (run e k).lowest
  pub pixels : (k : ℕ) → k < short e + 1 → stored_pixels (list_then e rest) k ≡ pos (run e k).pixels
  pub run_is : (k : ℕ) → k < short e + 1 → run_at (list_then e rest) k ≡ run e k

-- no run of a line with ends within the limits is bad
pub record NoneBad (e : Ends) (rest : List ℤ) : Type 0 where
  pub good : (k : ℕ) → k < short e + 1 → run_bad (list_then e rest) k ≡ false
  pub first_bad_lem : first_bad (list_then e rest) (short e + 1) ≡ None

-- painting the line's run list is drawing the line
pub record Painted (e : Ends) (rest : List ℤ) : Type 0 where
  pub has : (column row : ℤ) → (runs_figure (axis e) (list_then e rest) (short e + 1)).has column row ≡ on_line e column row
  pub counts : (w : Window) → (runs_figure (axis e) (list_then e rest) (short e + 1)).count w ≡ line_count e w
  pub room : 3 * (short e + 1) ≤ length (list_then e rest)
  pub paints : ends_out e ≡ false → (w : Window) → Paints (line_figure e) w (axis e) (list_then e rest) (short e + 1)

-- the painter, given the axis, the number of runs and the list that the lister left, does not refuse: its raster and its
-- counts are the drawers'
pub record ListedAndPainted (e : Ends) (list : List ℤ) (w : Window) (s : List ℕ) : Type 0 where
  pub answer_is : paint_answer (axis e) (short e + 1) (line_list e list) w s ≡ given (draw_counts (line_figure e) w s)
  pub raster_is : paint_after (axis e) (short e + 1) (line_list e list) w s ≡ draw_raster (line_figure e) w s
