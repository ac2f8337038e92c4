-- Refused by the window, the raster or the band, or by the file; else what the reader finds is drawn.
use mathlib.Core.Path.{◌≡◌, sym, ap, ◌∙◌}
use lib.ListN.{length}
use Rattle.refusal.specs.Refusal.{Answer, given, first_met}
use Rattle.refusal.proofs.Handing.{passed, err_is}
use Rattle.std.specs.Prelude.{Option, Some}
use Rattle.reel.specs.Reading.{find_answer}
use Rattle.reel.specs.declared.find.FramePart.{FramePart}
use Rattle.drawing.specs.Band.{rows_conditions}
use Rattle.drawing.proofs.Limits.{rows_window, rows_in, rows_frame}
use Rattle.reel_draw.proofs.PartLaws.{found_within}
use Rattle.reel_draw.proofs.FrameLaws.{rows_refused, file_refused, no_frame, frame_drawn}
use Rattle.reel_draw.proofs.draw.draw_frame.Goals.{In_ok-check, In-Some}
use Rattle.reel_draw.proofs.draw.draw_frame.Goals as goal

pub returns-in_err-check : goal.returns-in_err-check
returns-in_err-check c =
    let a = c.args in
    let facts = rows_refused a.file.now a.frame a.window a.raster.now a.band c.in_err-check.field-0.0 c.in_err-check.ensures in
    record { answered = err_is _ _ c.from_residual.ensures.1 ∙ facts.0; raster_after = facts.1 }

-- the window, the raster and the band are passed
module _ (c : In_ok-check) where
  none : first_met (rows_conditions c.args.window (length c.args.raster.now) c.args.band) ≡ 0
  none = passed _ _ c.in_ok-check.ensures

pub returns-in_err-part : goal.returns-in_err-part
returns-in_err-part c =
    let a = c.args in
    let facts = file_refused a.file.now a.frame a.window a.raster.now a.band (none (goal.at.returns-in_err-part c).In_ok-check)
    c.in_err-part.field-0.0 c.in_err-part.ensures in
    record { answered = err_is _ _ c.from_residual-in_err-part.ensures.1 ∙ facts.0; raster_after = facts.1 }

pub returns-in_default : goal.returns-in_default
returns-in_default c =
    let a = c.args in
    let facts = no_frame a.file.now a.frame a.window a.raster.now a.band (none (goal.at.returns-in_default c).In_ok-check)
    (sym (ap given c.in_default.is) ∙ c.in_ok-part.ensures) in
    record { answered = facts.0; raster_after = facts.1 }

-- the file has the frame
module _ (c : In-Some) where
  found : ◌≡◌ {A = Answer (Option FramePart)} (given (Some c.in-Some.part)) (find_answer c.args.file.now c.args.frame)
  found = sym (ap given c.in-Some.is) ∙ c.in_ok-part.ensures

pub invariant_of-mark_part : goal.invariant_of-mark_part
invariant_of-mark_part c =
    let a = c.args in
    record { within = rows_window a.window _ a.band (none (goal.at.invariant_of-mark_part c).In_ok-check) }

pub mark_part-requires-clause-records : goal.mark_part-requires-clause-records
mark_part-requires-clause-records c =
    found_within c.args.file.now c.args.frame c.in-Some.part (found (goal.at.mark_part-requires-clause-records c).In-Some)

pub mark_part-requires-clause-band : goal.mark_part-requires-clause-band
mark_part-requires-clause-band c =
    let h = none (goal.at.mark_part-requires-clause-band c).In_ok-check in
    (rows_in c.args.window _ c.args.band h, (rows_frame c.args.window _ c.args.band h).shape.length_is)

pub returns : goal.returns
returns c =
    let a = c.args in
    let facts = frame_drawn a.file.now a.frame a.window a.raster.now a.band (none (goal.at.returns c).In_ok-check) c.in-Some.part
    (found (goal.at.returns c).In-Some) c.mark_part.result _ c.mark_part.ensures.value c.mark_part.ensures.raster_after in
    record { answered = facts.0; raster_after = facts.1 }
