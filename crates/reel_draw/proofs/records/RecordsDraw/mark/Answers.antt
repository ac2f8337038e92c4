-- The raster is the start plus the pixels of the records' lines drawn so far; their counts are added up.
use Prim.Native.Nat.{ℕ, ◌+◌, ◌≤◌, ◌<◌}
use mathlib.Core.Path.{◌≡◌, ◌∙◌}
use native.Mathlib.Omega.{arith}
use lib.ListN.{length}
use Rattle.raster.proofs.Frames.{Frame}
use Rattle.raster.proofs.Grids.{grid_frame}
use Rattle.drawing.specs.Figure.{Figure}
use Rattle.drawing.proofs.Several.{Drew, drew_none, drew_on, drew_count, drew_few, drew_length}
use Rattle.line.specs.Figure.{line_figure}
use Rattle.reel.specs.Reel.{coordinates}
use Rattle.reel_draw.specs.Records.{record_count, record_line}
use Rattle.reel_draw.proofs.RecordLaws.{record_in, records_in_bytes, line_most}
use Rattle.reel_draw.proofs.records.RecordsDraw.mark.Goals.{After-mark_line-counts, In-loop-k, Start}
use Rattle.reel_draw.proofs.records.RecordsDraw.mark.Goals as goal

module _ (c : Start) where
  abbrev figures : ℕ → Figure
  figures k = line_figure (record_line (coordinates c.args.self.bytes.now) k)

  frm : Frame c.args.grid.window (length c.args.raster.now)
  frm = grid_frame c.args.grid _ c.requires.1

  -- each line has few pixels
  line_small : (k : ℕ) → k < record_count (coordinates c.args.self.bytes.now) → (figures k).count c.args.grid.window ≤ 32768
  line_small k l = line_most (record_line (coordinates c.args.self.bytes.now) k) c.args.grid.window (record_in _ c.args.self.in_range k l)

pub loop-k-init : goal.loop-k-init
loop-k-init c = let s = (goal.at.loop-k-init c).Start in drew_none (figures s) _ _ (frm s) (λ i _. (c.type_inv.raster i).fits)

-- record k is one of them, and the raster is as long as at the start
module _ (c : In-loop-k) where
  inside : c.loop-k.k < record_count (coordinates c.args.self.bytes.now)
  inside = omega (arith, records_in_bytes c.args.self.bytes.now, c.loop-k-test.true)

pub mark_line-counts-requires : goal.mark_line-counts-requires
mark_line-counts-requires c = (
  omega (arith, c.loop-k-test.true),
  drew_length (figures (goal.at.mark_line-counts-requires c).Start) _ _ c.loop-k.invariant ∙ c.requires.1,
)

-- its line is drawn
module _ (c : After-mark_line-counts) where
  abbrev start : Start
  start = (goal.at.After-mark_line-counts c).Start

  drew : Drew (figures start) c.args.grid.window c.args.raster.now c.mark_line-counts.new.raster
      (c.loop-k.count + c.mark_line-counts.result.count) (c.loop-k.fresh + c.mark_line-counts.result.fresh) (c.loop-k.k + 1)
  drew =
      drew_on (figures start) c.args.grid.window c.args.raster.now (frm start) c.loop-k.raster _ c.loop-k.count c.loop-k.fresh c.loop-k.k _
      c.loop-k.invariant c.mark_line-counts.ensures.value c.mark_line-counts.ensures.raster_after

pub overflow_add-count : goal.overflow_add-count
overflow_add-count c =
    let m = (goal.at.overflow_add-count c).After-mark_line-counts in
    let at : c.loop-k.k < record_count (coordinates c.args.self.bytes.now) = inside (goal.at.overflow_add-count c).In-loop-k in
    let few = drew_count (figures (start m)) _ _ 32768 (drew m) (λ i l. line_small (start m) i (omega (arith, at))) in
    record { fits = omega (arith, few, c.loop-k-test.true, c.args.self.few) }

pub overflow_add-fresh : goal.overflow_add-fresh
overflow_add-fresh c =
    let m = (goal.at.overflow_add-fresh c).After-mark_line-counts in record { fits = omega (arith, drew_few (figures (start m)) _ _ (frm (start m)) (drew m)) }

pub loop-k-preserved : goal.loop-k-preserved
loop-k-preserved c = drew (goal.at.loop-k-preserved c).After-mark_line-counts

pub returns : goal.returns
returns c =
    let end : c.loop-k.k ≡ record_count (coordinates c.args.self.bytes.now) = omega (arith, records_in_bytes c.args.self.bytes.now) in
    let done = rw end at c.loop-k.invariant in record { value = done.counts_are; raster_after = done.raster_is }
