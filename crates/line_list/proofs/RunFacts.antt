-- Every step is in one run, once, so a test of the line's pixels and a count of them go run by run, from a run list too.
use Prim.Native.Nat.{ℕ, zero, suc, ◌+◌, ◌*◌, ◌≤◌, ◌<◌}
use mathlib.Core.Path.{◌≡◌, refl, sym, ap, ◌∙◌}
use mathlib.Core.Bool.{Bool, true, false, ◌||◌}
use mathlib.Core.List.{List, [], ◌∷◌, ◌++◌}
use native.Mathlib.Omega.{arith}
use native.Mathlib.Nat.{add-zero, zero-add}
use native.Mathlib.Numerals.{add-one}
use lib.IntN.{ℤ, pos, ◌+ℤ◌}
use lib.Signed.{lt_z}
use lib.ListN.{length, get_or, drop, length-append, get_or-append}
use borrow.Author.Tests.{le-ltb}
use Rattle.counting.specs.Count.{any, count, sum, each}
use Rattle.counting.proofs.Boolean.{bool_iff, neither_or}
use Rattle.counting.proofs.Any.{any_make, any_find, any_none, any_cong}
use Rattle.counting.proofs.Counted.{count_cong}
use Rattle.counting.proofs.First.{first_none}
use Rattle.counting.proofs.Each.{each-length}
use Rattle.counting.proofs.Summed.{sum_cong, count_sum}
use Rattle.coordinate.specs.Coordinate.{out_of_range}
use Rattle.coordinate.specs.declared.pixel.Pixel.{Pixel}
use Rattle.refusal.specs.Refusal.{first_met}
use Rattle.raster.specs.Raster.{in_window}
use Rattle.raster.specs.Bits.{point}
use Rattle.raster.specs.declared.window.Window.{Window}
use Rattle.drawing.specs.Drawing.{draw_conditions}
use Rattle.drawing.proofs.Conditions.{figure_in, frame_in}
use Rattle.runs.specs.Run.{Run, numbers, run_list, run_pixel, in_run, run_count}
use Rattle.runs.specs.Painting.{stored_across, stored_lowest, stored_pixels, natural, run_at, run_bad, first_bad, runs_figure}
use Rattle.runs.proofs.Paints.{paints_as_drawn}
use Rattle.line.specs.Line.{long, short, axis, pixel, on_line, ends_out}
use Rattle.line.specs.Distance.{distance}
use Rattle.line.specs.Figure.{line_count, line_figure}
use Rattle.line.specs.declared.ends.Ends.{Ends}
use Rattle.line.proofs.Drawable.{ends_in, line_drawable}
use Rattle.line.proofs.Pixels.{distance_max}
use Rattle.line_list.specs.Runs.{first_step, pixels_of, run, runs}
use Rattle.line_list.specs.Listing.{line_list}
use Rattle.line_list.specs.RunFacts.{long_falls, step_of, Stepped, RunsAreLine, RunsDrawLine, list_then, ReadBack, NoneBad, Painted, ListedAndPainted}
use Rattle.line_list.proofs.RunPixels.{count-turned, runs-each, lengths, stepped, place, step_once, run-long_in, run_across_in}

-- ---- the runs are the line

run_pixels_lem : (e : Ends) (k : ℕ) → (run e k).pixels ≡ pixels_of e k
unfolding run
run_pixels_lem e k = refl

-- the runs are the line's pixels in its order, each in one run once
pub runs_are_line : (e : Ends) → RunsAreLine e
runs_are_line e =
    let r = lengths e in
    record {
      number = rw (runs-each e) (each-length (short e + 1) (run e));
      pixels_is = run_pixels_lem e;
      some = λ k q. (r.runs k).1 q;
      steps = stepped e;
      once = λ i p. (place e i (distance e i) p refl, step_once e i (distance e i) p refl);
      starts = r.starts;
      follows = r.follows;
      ends = r.ends;
    }

numbered : (e : Ends) (k j : ℕ) → j < (run e k).pixels → Stepped e k j (step_of e k j)
numbered e k j l = stepped e k j (omega (arith, run_pixels_lem e k))

-- ---- pixel by pixel

module _ (e : Ends) (column row : ℤ) where
  spot : Pixel → Bool
  spot p = point p.column p.row column row

  of_run : ℕ → ℕ → Bool
  of_run k j = spot (run_pixel (axis e) (run e k) j)

  of_line : ℕ → Bool
  of_line i = spot (pixel e i)

  -- a run's pixel is its step's, and a step's pixel is its run's
  to_line : any (short e + 1) (λ k. any (run e k).pixels (of_run k)) ≡ true → any (suc (long e)) of_line ≡ true
  unfolding of_run of_line
  to_line t =
      let a = any_find (short e + 1) (λ k. any (run e k).pixels (of_run k)) t in
      let b = any_find (run e a.0).pixels (of_run a.0) a.2 in
      let s = numbered e a.0 b.0 b.1 in
      any_make (suc (long e)) of_line (step_of e a.0 b.0) (omega (arith, s.within)) (ap spot s.pixel_is ∙ b.2)

  to_runs : any (suc (long e)) of_line ≡ true → any (short e + 1) (λ k. any (run e k).pixels (of_run k)) ≡ true
  unfolding of_run of_line
  to_runs t =
      let a = any_find (suc (long e)) of_line t in
      let i : ℕ = a.0 in
      let p : i ≤ long e = omega (arith, a.1) in
      let k : ℕ = distance e i in
      let j : ℕ = place e i k p refl in
      let o = step_once e i k p refl in
      any_make (short e + 1) (λ k. any (run e k).pixels (of_run k)) k (omega (arith, distance_max e i p))
      (any_make (run e k).pixels (of_run k) j (omega (arith, o.within, run_pixels_lem e k))
      (ap spot (sym (stepped e k j o.within).pixel_is) ∙ ap of_line o.step_is ∙ a.2))

  runs_mark : any (short e + 1) (λ k. in_run (axis e) (run e k) column row) ≡ on_line e column row
  unfolding in_run on_line spot of_run of_line
  runs_mark = bool_iff _ _ to_line to_runs

-- ---- the counts

module _ (e : Ends) (w : Window) where
  run_count_lem : (k : ℕ) → run_count (axis e) (run e k) w ≡ count (pixels_of e k) (λ j. in_window w (pixel e (first_step e k + j)))
  unfolding run_count step_of
  run_count_lem k =
      count_cong (run e k).pixels _ _ (λ j l. ap (in_window w) (sym (numbered e k j l).pixel_is))
      ∙ ap (λ (n : ℕ). count n (λ j. in_window w (pixel e (step_of e k j)))) (run_pixels_lem e k)
      ∙ count-turned (long_falls e) (pixels_of e k) (λ j. in_window w (pixel e (first_step e k + j)))

  runs-count : sum (short e + 1) (λ k. run_count (axis e) (run e k) w) ≡ line_count e w
  unfolding line_count
  runs-count =
      let r = lengths e in
      sum_cong (short e + 1) _ _ (λ k l. run_count_lem k)
      ∙ count_sum (short e + 1) (first_step e) (pixels_of e) (λ i. in_window w (pixel e i)) r.starts (λ k l. r.follows k)
      ∙ ap (λ (n : ℕ). count n (λ i. in_window w (pixel e i))) (r.ends ∙ add-one (long e))

-- the runs mark what the line marks, and their counts add up to the line's
pub runs_draw_line : (e : Ends) → RunsDrawLine e
runs_draw_line e = record { marks = runs_mark e; counts = runs-count e }

-- ---- the run list

list_length : (rs : List Run) → length (run_list rs) ≡ 3 * length rs
unfolding run_list
list_length [] = refl
list_length (r ∷ rs) = omega (arith, list_length rs)

-- number c of run k of a run list with more behind it
read : (rest : List ℤ) (n : ℕ) (f : ℕ → Run) (k c : ℕ) → k < n → c < 3
    → get_or (run_list (each n f) ++ rest) (3 * k + c) (pos 0) ≡ get_or (numbers (f k)) c (pos 0)
unfolding run_list each
read rest zero f k c p q = absurd (omega arith)
read rest (suc n) f zero c p q = rw (zero-add c) (get_or-append (numbers (f 0)) (run_list (each n (λ i. f (suc i))) ++ rest) (pos 0) c q)
read rest (suc n) f (suc k) c p q =
    let three : 3 * suc k + c ≡ suc (suc (suc (3 * k + c))) = omega arith in
    rw three (read rest n (λ i. f (suc i)) k c (omega arith) q)

module _ (e : Ends) (rest : List ℤ) where
  module _ (k : ℕ) (l : k < short e + 1) where
    stored : (c : ℕ) → c < 3 → get_or (list_then e rest) (3 * k + c) (pos 0) ≡ get_or (numbers (run e k)) c (pos 0)
    stored c q = rw (runs-each e) (read rest (short e + 1) (run e) k c l q)

    across_back : stored_across (list_then e rest) k ≡ (run e k).across
    across_back = ap (λ (x : ℕ). get_or (list_then e rest) x (pos 0)) (sym (add-zero (3 * k))) ∙ stored 0 (omega arith)

    lowest_back : stored_lowest (list_then e rest) k ≡ (run e k).lowest
    lowest_back = stored 1 (omega arith)

    pixels_back : stored_pixels (list_then e rest) k ≡ pos (run e k).pixels
    pixels_back = stored 2 (omega arith)

    run_back : run_at (list_then e rest) k ≡ run e k
    run_back = rw (across_back, lowest_back, pixels_back)

    stored_some : lt_z (stored_pixels (list_then e rest) k) (pos 1) ≡ false
    stored_some = rw pixels_back (le-ltb (run e k).pixels 1 (omega (arith, run_pixels_lem e k, ((lengths e).runs k).1 (omega arith))))

    stored_in : ends_out e ≡ false → (j : ℕ) → j < natural (stored_pixels (list_then e rest) k)
        → (out_of_range (stored_across (list_then e rest) k) || out_of_range (stored_lowest (list_then e rest) k +ℤ pos j)) ≡ false
    stored_in p j b =
        let s : j < pixels_of e k = omega (arith, ap natural pixels_back, run_pixels_lem e k) in
        rw (across_back, lowest_back)
        (neither_or (out_of_range (run e k).across) (out_of_range ((run e k).lowest +ℤ pos j))
        (run_across_in e p k j (omega arith) s) (run-long_in e p k j (omega arith) s))

    stored_good : ends_out e ≡ false → run_bad (list_then e rest) k ≡ false
    unfolding run_bad
    stored_good p = neither_or _ _ stored_some (any_none (natural (stored_pixels (list_then e rest) k)) _ (stored_in p))

  -- the run list has three numbers to a run, and gives each run back
  pub read_back : ReadBack e rest
  read_back =
      record {
        length_is = omega (arith, list_length (runs e), (runs_are_line e).number);
        across = across_back;
        lowest = lowest_back;
        pixels = pixels_back;
        run_is = run_back;
      }

  -- none of its runs is bad where the ends are within the limits
  pub none_bad : ends_out e ≡ false → NoneBad e rest
  unfolding first_bad
  none_bad p =
      record {
        good = λ k l. stored_good k l p;
        first_bad_lem = first_none (short e + 1) (run_bad (list_then e rest)) (λ k l. stored_good k l p);
      }

  painted_has : (column row : ℤ) → (runs_figure (axis e) (list_then e rest) (short e + 1)).has column row ≡ on_line e column row
  painted_has column row = any_cong (short e + 1) _ _ (λ k l. ap (λ (r : Run). in_run (axis e) r column row) (run_back k l)) ∙ runs_mark e column row

  painted_count : (w : Window) → (runs_figure (axis e) (list_then e rest) (short e + 1)).count w ≡ line_count e w
  painted_count w = sum_cong (short e + 1) _ _ (λ k l. ap (λ (r : Run). run_count (axis e) r w) (run_back k l)) ∙ runs-count e w

  long_enough : 3 * (short e + 1) ≤ length (list_then e rest)
  long_enough = omega (arith, read_back.length_is, length-append (run_list (runs e)) rest)

  -- painting the line's run list is drawing the line
  pub paints_line : Painted e rest
  paints_line =
      record {
        has = painted_has;
        counts = painted_count;
        room = long_enough;
        paints =
            λ p w.
            record {
              room = long_enough;
              none_bad = (none_bad p).first_bad_lem;
              has = λ c r lc lr. painted_has _ _;
              counts = painted_count w;
            };
      }

-- ---- lister and painter

module _ (e : Ends) (list : List ℤ) (w : Window) (s : List ℕ) (h : first_met (draw_conditions (line_figure e) w (length s)) ≡ 0) where
  -- painting what the lister left is drawing the line, in the painter's whole answer
  pub listed_and_painted : ListedAndPainted e list w s
  unfolding line_list
  listed_and_painted =
      let d = line_drawable e in
      let drawn = paints_as_drawn (line_figure e) w (axis e) (list_then e (drop (3 * (short e + 1)) list)) (short e + 1)
      ((paints_line e (drop (3 * (short e + 1)) list)).paints (ends_in e (figure_in (line_figure e) d w _ h)) w) s (frame_in (line_figure e) d w _ h) in
      record { answer_is = drawn.answer_is; raster_is = drawn.raster_is }
