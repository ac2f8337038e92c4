-- At turn k the first k runs are painted and counted; each adds at most 32768 to the sum, and the fresh pixels are no more than the
-- raster's bits.
use Prim.Native.Nat.{ℕ, ◌+◌, ◌/◌, ◌≤◌, ◌<◌}
use mathlib.Core.Path.{◌≡◌, ap, ◌∙◌}
use mathlib.Core.Bool.{false}
use native.Mathlib.Omega.{arith}
use lib.ListN.{length}
use Rattle.raster.proofs.Frames.{Frame}
use Rattle.raster.proofs.Grids.{grid_frame}
use Rattle.drawing.specs.Figure.{Figure}
use Rattle.drawing.specs.Drawing.{draw_counts, draw_raster}
use Rattle.drawing.proofs.Several.{Drew, drew_none, drew_on, drew_count, drew_few, drew_length}
use Rattle.runs.specs.Run.{run_figure}
use Rattle.runs.specs.Painting.{run_at}
use Rattle.runs.specs.Parts.{stored_at, run_of, bad_run}
use Rattle.runs.specs.declared.stored.Stored.{Stored}
use Rattle.runs.proofs.Bad.{lawful}
use Rattle.runs.proofs.Counted.{stored_chunk}
use Rattle.runs.proofs.Painting.{all_lawful, run_few}
use Rattle.runs.proofs.paint.RunsDraw.mark.Goals.{After-paint_run-counts, After-from, At-loop-run, Start}
use Rattle.runs.proofs.paint.RunsDraw.mark.Goals as goal

module _ (c : Start) where
  abbrev figures : ℕ → Figure
  figures k = run_figure c.args.self.axis (run_at c.args.self.list.now k)

  frm : Frame c.args.grid.window (length c.args.raster.now)
  frm = grid_frame c.args.grid _ c.requires.1

  good : (k : ℕ) → k < length c.args.self.list.now / 3 → bad_run (stored_at c.args.self.list.now k) ≡ false
  good k l = all_lawful c.args.self.list.now (length c.args.self.list.now / 3) c.args.self.none_bad k l

  -- each run has few pixels
  run_small : (k : ℕ) → k < length c.args.self.list.now / 3 → (figures k).count c.args.grid.window ≤ 32768
  run_small k l = run_few c.args.self.axis (stored_at c.args.self.list.now k) c.args.grid.window (lawful (stored_at c.args.self.list.now k) (good k l))

pub loop-run-init : goal.loop-run-init
loop-run-init c = let s = (goal.at.loop-run-init c).Start in drew_none (figures s) _ _ (frm s) (λ i _. (c.type_inv.raster i).fits)

-- the run that is read is the one at this place
module _ (c : After-from) where
  read_is : c.from.result ≡ stored_at c.args.self.list.now c.loop-run.run-index
  read_is = c.from.ensures ∙ stored_chunk c.args.self.list.now _ c.loop-run.run-index c.as_chunks.ensures.front (omega arith)

-- the raster at the loop's head is as long as at the start
module _ (c : At-loop-run) where
  length_at : length c.loop-run.raster ≡ length c.args.raster.now
  length_at = drew_length (figures (goal.at.At-loop-run c).Start) _ _ c.loop-run.invariant

pub paint_run-counts-requires : goal.paint_run-counts-requires
paint_run-counts-requires c =
    let read = (goal.at.paint_run-counts-requires c).After-from in (
      ap bad_run (read_is read) ∙ good (goal.at.paint_run-counts-requires c).Start c.loop-run.run-index (omega arith),
      length_at (goal.at.paint_run-counts-requires c).At-loop-run ∙ c.requires.1,
    )

-- one run more is painted
module _ (c : After-paint_run-counts) where
  abbrev start : Start
  start = (goal.at.After-paint_run-counts c).Start

  painted : Drew (figures start) c.args.grid.window c.args.raster.now c.paint_run-counts.new.raster
      (c.loop-run.count + c.paint_run-counts.result.count) (c.loop-run.fresh + c.paint_run-counts.result.fresh) (c.loop-run.run-index + 1)
  painted =
      let a = c.args in
      let is = read_is (goal.at.After-paint_run-counts c).After-from in
      drew_on (figures start) a.grid.window a.raster.now (frm start) c.loop-run.raster _ c.loop-run.count c.loop-run.fresh c.loop-run.run-index _ c.loop-run.invariant
      (c.paint_run-counts.ensures.value ∙ ap (λ (s : Stored). draw_counts (run_figure a.self.axis (run_of s)) a.grid.window c.loop-run.raster) is)
      (c.paint_run-counts.ensures.raster_after ∙ ap (λ (s : Stored). draw_raster (run_figure a.self.axis (run_of s)) a.grid.window c.loop-run.raster) is)

pub overflow_add-count : goal.overflow_add-count
overflow_add-count c =
    let p = (goal.at.overflow_add-count c).After-paint_run-counts in
    let few = drew_count (figures (start p)) _ _ 32768 (painted p) (λ i l. run_small (start p) i (omega arith)) in
    record { fits = omega (arith, few, c.args.self.few) }

pub overflow_add-fresh : goal.overflow_add-fresh
overflow_add-fresh c =
    let p = (goal.at.overflow_add-fresh c).After-paint_run-counts in
    record { fits = omega (arith, drew_few (figures (start p)) _ _ (frm (start p)) (painted p)) }

pub loop-run-preserved : goal.loop-run-preserved
loop-run-preserved c = painted (goal.at.loop-run-preserved c).After-paint_run-counts

pub shape_of-raster : goal.shape_of-raster
shape_of-raster c = length_at (goal.at.shape_of-raster c).At-loop-run

pub returns : goal.returns
returns c =
    let end : c.loop-run.run-index ≡ length c.args.self.list.now / 3 = omega arith in
    let done = rw end at c.loop-run.invariant in record { value = done.counts_are; raster_after = done.raster_is }
