-- The steps in both begin at the later first step, and end at the earlier one.
use Rattle.line_draw.proofs.Intervals.{both}
use Rattle.line_draw.proofs.visible.both_of.Goals as goal

pub returns : goal.returns
returns c =
    let s = c.args.slope in
    both c.args.a c.args.b _ s.rounding s.short_most
    (rw (← c.first_step.ensures) c.max-from.ensures)
    (rw (← c.first_step-2.ensures) c.min-end.ensures)
