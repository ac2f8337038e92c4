-- Each return is a case of the outcome: the frame's refusal, the count's, a bad run's, or the painting.
use mathlib.Core.Path.{◌≡◌, refl, sym, ap, ◌∙◌}
use mathlib.Core.List.{List}
use Prim.Native.Nat.{ℕ, ◌*◌, ◌/◌, ◌≤◌}
use native.Mathlib.Omega.{arith}
use native.Mathlib.Nat.{sub-zero}
use lib.ListN.{length}
use Rattle.std.proofs.Common.{take}
use Rattle.std.specs.Prelude.{Option}
use Rattle.refusal.specs.Refusal.{given, first_met}
use Rattle.refusal.proofs.Handing.{passed, err_is}
use Rattle.raster.specs.Window.{frame_conditions}
use Rattle.raster.proofs.Frames.{window_in}
use Rattle.raster.proofs.Grids.{length_in}
use Rattle.drawing.specs.Figure.{Figure}
use Rattle.drawing.specs.Drawing.{draw_counts, draw_raster}
use Rattle.drawing.specs.declared.counts.Counts.{Counts}
use Rattle.runs.specs.Painting.{first_bad, runs_figure}
use Rattle.runs.specs.Parts.{bad_check}
use Rattle.runs.proofs.Counted.{counted_bad, counted_runs}
use Rattle.runs.proofs.Outcome.{none_bad, frame_refused, count_refused, run_refused, all_passed}
use Rattle.runs.proofs.paint.paint_runs.Goals.{In_ok-check_frame, In-Some, Start}
use Rattle.runs.proofs.paint.paint_runs.Goals as goal

-- what the outcome is made of
module _ (s : Start) where
  abbrev bad : Option ℕ
  bad = first_bad s.args.list.now s.args.count

  abbrev total : Counts
  total = draw_counts (runs_figure s.args.axis s.args.list.now s.args.count) s.args.window s.args.raster.now

  abbrev work : List ℕ
  work = draw_raster (runs_figure s.args.axis s.args.list.now s.args.count) s.args.window s.args.raster.now

pub returns-in_err-check_frame : goal.returns-in_err-check_frame
returns-in_err-check_frame c =
    let s = (goal.at.returns-in_err-check_frame c).Start in
    let a = c.args in
    let facts = frame_refused a.window (length a.raster.now) a.list.now a.count (bad s) (total s) (work s) a.raster.now
    c.in_err-check_frame.field-0.0 c.in_err-check_frame.ensures in
    record { answered = err_is _ _ c.from_residual.ensures.1 ∙ facts.0; raster_after = facts.1 }

-- the frame is within the limits
module _ (c : In_ok-check_frame) where
  within : first_met (frame_conditions c.args.window (length c.args.raster.now)) ≡ 0
  within = passed _ _ c.in_ok-check_frame.ensures

pub returns-in_default : goal.returns-in_default
returns-in_default c =
    let s = (goal.at.returns-in_default c).Start in
    let a = c.args in
    let facts = count_refused a.window (length a.raster.now) a.list.now a.count (bad s) (total s) (work s) a.raster.now
    (within (goal.at.returns-in_default c).In_ok-check_frame) (omega (arith, c.in_default.ensures.lookup.0)) in
    record { answered = facts.0; raster_after = facts.1 }

-- the counted runs are those of the cut list
module _ (c : In-Some) where
  fits : 3 * c.args.count ≤ length c.args.list.now
  fits = c.in-Some.ensures.lookup.0.1

  cut : c.in-Some.counted.now ≡ take (3 * c.args.count) c.args.list.now
  cut = rw sub-zero at c.in-Some.ensures.lookup.0.2

  long : length c.in-Some.counted.now / 3 ≡ c.args.count
  long = omega (arith, c.in-Some.ensures.lookup.0.3)

  same_bad : first_bad c.in-Some.counted.now (length c.in-Some.counted.now / 3) ≡ first_bad c.args.list.now c.args.count
  same_bad = counted_bad c.args.list.now c.in-Some.counted.now c.args.count cut long

pub returns-in_err-check_runs : goal.returns-in_err-check_runs
returns-in_err-check_runs c =
    let s = (goal.at.returns-in_err-check_runs c).Start in
    let some = (goal.at.returns-in_err-check_runs c).In-Some in
    let a = c.args in
    let facts = run_refused a.window (length a.raster.now) a.list.now a.count (bad s) (total s) (work s) a.raster.now
    (within (goal.at.returns-in_err-check_runs c).In_ok-check_frame) (fits some) c.in_err-check_runs.field-0.0
    (ap bad_check (sym (same_bad some)) ∙ sym c.in_err-check_runs.ensures) in
    record { answered = err_is _ _ c.from_residual-in_err-check_runs.ensures.1 ∙ facts.0; raster_after = facts.1 }

pub invariant_of-runs : goal.invariant_of-runs
invariant_of-runs c = record {
  none_bad = none_bad _ (sym c.in_ok-check_runs.ensures);
  few = let e = long (goal.at.invariant_of-runs c).In-Some in omega (arith, c.ranges.count.fits);
}

pub invariant_of-mark : goal.invariant_of-mark
invariant_of-mark c = record { within = window_in _ _ (within (goal.at.invariant_of-mark c).In_ok-check_frame) }

pub mark-requires : goal.mark-requires
unfolding first_met
mark-requires c = (refl, length_in _ _ (within (goal.at.mark-requires c).In_ok-check_frame))

pub returns : goal.returns
returns c =
    let a = c.args in
    let some = (goal.at.returns c).In-Some in
    let none = sym (same_bad some) ∙ none_bad _ (sym c.in_ok-check_runs.ensures) in
    let all = all_passed a.window (length a.raster.now) a.list.now a.count (within (goal.at.returns c).In_ok-check_frame) (fits some) in
    let same = counted_runs a.list.now c.in-Some.counted.now a.count (cut some) (long some) a.axis in
    record {
      answered = rw (all, none) (ap given (c.mark.ensures.value ∙ ap (λ (f : Figure). draw_counts f a.window a.raster.now) same));
      raster_after = rw (all, none) (c.mark.ensures.raster_after ∙ ap (λ (f : Figure). draw_raster f a.window a.raster.now) same);
    }
