-- Each return is a case of what both ways promise: refused by the frames' check, refused by the lister, or drawn.
use mathlib.Core.Path.{◌≡◌, ap, ◌∙◌}
use Prim.Native.Nat.{ℕ}
use lib.ListN.{length}
use Rattle.refusal.specs.Refusal.{first_met, unless_refused}
use Rattle.refusal.proofs.Handing.{passed, err_is}
use Rattle.raster.proofs.Frames.{window_in}
use Rattle.raster.proofs.Grids.{length_in}
use Rattle.raster.proofs.Over.{Bytes}
use Rattle.drawing.proofs.Conditions.{figure_in, frame_in}
use Rattle.line.specs.Figure.{line_figure}
use Rattle.line.proofs.Drawable.{ends_in, line_drawable}
use Rattle.line_list.specs.Listing.{line_list}
use Rattle.line_list.proofs.ListAnswer.{listing_met, listing_axis, listing_runs}
use Rattle.both_ways.specs.BothWays.{frames_conditions}
use Rattle.both_ways.proofs.BothLaws.{line_in, frames_refused, lister_refused, both_drawn}
use Rattle.both_ways.proofs.draw.draw_both_ways.Goals.{In_ok-check_frames}
use Rattle.both_ways.proofs.draw.draw_both_ways.Goals as goal

pub returns-in_err-check_frames : goal.returns-in_err-check_frames
returns-in_err-check_frames c =
    let a = c.args in
    let facts = frames_refused a.ends a.window a.list.now a.bands.now a.painted.now a.banded.now c.in_err-check_frames.field-0.0 c.in_err-check_frames.ensures in
    record { answered = err_is _ _ c.from_residual.ensures.1 ∙ facts.0; list_after = facts.1.0; painted_after = facts.1.1.0; banded_after = facts.1.1.1.0; equal_raster = facts.1.1.1.1 }

-- the frames meet no condition
module _ (c : In_ok-check_frames) where
  none : first_met (frames_conditions c.args.ends c.args.window (length c.args.painted.now) (length c.args.banded.now)) ≡ 0
  none = passed _ _ c.in_ok-check_frames.ensures

pub returns-in_err-listing : goal.returns-in_err-listing
returns-in_err-listing c =
    let a = c.args in
    let facts = lister_refused a.ends a.window a.list.now a.bands.now a.painted.now a.banded.now c.in_err-listing.field-0.0
    (none (goal.at.returns-in_err-listing c).In_ok-check_frames) c.in_err-listing.ensures.answered _ c.list_runs.ensures.list_after in
    record { answered = err_is _ _ c.from_residual-in_err-listing.ensures.1 ∙ facts.0; list_after = facts.1.0; painted_after = facts.1.1.0; banded_after = facts.1.1.1.0; equal_raster = facts.1.1.1.1 }

pub invariant_of-grid : goal.invariant_of-grid
invariant_of-grid c =
    let in_line = line_in c.args.ends c.args.window _ _ (none (goal.at.invariant_of-grid c).In_ok-check_frames) in
    record { within = window_in _ _ (frame_in (line_figure c.args.ends) (line_drawable c.args.ends) c.args.window _ in_line) }

pub draw_listed-requires-clause-listed : goal.draw_listed-requires-clause-listed
draw_listed-requires-clause-listed c =
    let a = c.args in
    let l = c.in_ok-listing.listing in
    let told = c.in_ok-listing.ensures.answered in
    let in_line = line_in a.ends a.window _ _ (none (goal.at.draw_listed-requires-clause-listed c).In_ok-check_frames) in (
      ends_in a.ends (figure_in (line_figure a.ends) (line_drawable a.ends) a.window _ in_line),
      listing_axis a.ends a.list.now l told,
      listing_runs a.ends a.list.now l told,
      (a.list.now, c.list_runs.ensures.list_after ∙ ap (λ (n : ℕ). unless_refused n (line_list a.ends a.list.now) a.list.now) (listing_met a.ends a.list.now l told)),
    )

pub draw_listed-requires-clause-room : goal.draw_listed-requires-clause-room
draw_listed-requires-clause-room c =
    let in_line = line_in c.args.ends c.args.window _ _ (none (goal.at.draw_listed-requires-clause-room c).In_ok-check_frames) in
    length_in _ _ (frame_in (line_figure c.args.ends) (line_drawable c.args.ends) c.args.window _ in_line)

pub returns : goal.returns
returns c =
    let a = c.args in
    let bytes : Bytes a.painted.now = λ i _. (c.slice_known-1.given i).fits in
    let facts = both_drawn a.ends a.window a.list.now a.bands.now a.painted.now a.banded.now (none (goal.at.returns c).In_ok-check_frames)
    (listing_met a.ends a.list.now c.in_ok-listing.listing c.in_ok-listing.ensures.answered) bytes _ _ _ c.draw_listed.result c.draw_listed.ensures.answered
    c.list_runs.ensures.list_after c.draw_listed.ensures.painted_after c.draw_listed.ensures.banded_after in
    record { answered = facts.0; list_after = facts.1.0; painted_after = facts.1.1.0; banded_after = facts.1.1.1.0; equal_raster = facts.1.1.1.1 }
