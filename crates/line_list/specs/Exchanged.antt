-- Document 02, 4/13 and 6/13: listed from the other end a line has the same runs, in the reverse order; the proof is in
-- proofs/Exchanged.antt. Assumes nothing.
use Rattle.std.specs.Prelude.{ℕ, ◌+◌, ◌-◌, ◌*◌, ◌≤◌, ◌≡◌, List, ◌++◌, reverse, ℤ, length, drop}
use Rattle.refusal.specs.Refusal.{given, unless_refused, first_met}
use Rattle.raster.specs.declared.window.Window.{Window}
use Rattle.drawing.specs.Drawing.{draw_counts, draw_raster, draw_conditions}
use Rattle.runs.specs.Run.{run_list}
use Rattle.runs.specs.Painting.{paint_answer, paint_after}
use Rattle.line.specs.Line.{short, axis}
use Rattle.line.specs.Figure.{line_figure}
use Rattle.line.specs.Exchanged.{exchanged}
use Rattle.line.specs.declared.ends.Ends.{Ends}
use Rattle.line_list.specs.Runs.{run, runs}
use Rattle.line_list.specs.Listing.{list_conditions, line_list, list_answer, list_after}

pub record RunsReversed (e : Ends) : Type 0 where
  pub run_is : (k : ℕ) → k ≤ short e → run (exchanged e) k ≡ run e (short e - k)
  pub runs_are : runs (exchanged e) ≡ reverse (runs e)

-- the lister's answer is the same for every list; unless it refuses, the list then holds the runs in the reverse order and the
-- rest as it was
pub record ListReversed (e : Ends) (list : List ℤ) : Type 0 where
  pub list_is : line_list (exchanged e) list ≡ run_list (reverse (runs e)) ++ drop (3 * (short e + 1)) list
  pub answers : list_answer (exchanged e) list ≡ list_answer e list
  pub leaves : list_after (exchanged e) list
      ≡ unless_refused (first_met (list_conditions e (length list))) (run_list (reverse (runs e)) ++ drop (3 * (short e + 1)) list) list

-- the painter, given that list with a window and a start within the limits, draws the line: its counts and its raster are the
-- drawers'
pub record ReversedPainted (e : Ends) (list : List ℤ) (w : Window) (s : List ℕ) : Type 0 where
  pub answer_is : first_met (draw_conditions (line_figure e) w (length s)) ≡ 0
      → paint_answer (axis e) (short e + 1) (line_list (exchanged e) list) w s ≡ given (draw_counts (line_figure e) w s)
  pub raster_is : first_met (draw_conditions (line_figure e) w (length s)) ≡ 0
      → paint_after (axis e) (short e + 1) (line_list (exchanged e) list) w s ≡ draw_raster (line_figure e) w s
