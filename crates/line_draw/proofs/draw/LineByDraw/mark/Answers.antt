-- The line's pixels in the window are those of the visible steps, which the walker walks through.
use Rattle.std.proofs.Common.{length, arith}
use Rattle.raster.proofs.Frames.{Frame}
use Rattle.raster.proofs.Grids.{grid_frame}
use Rattle.line.proofs.Drawable.{ends_in}
use Rattle.line_draw.proofs.Whole.{shown_visible}
use Rattle.line_draw.proofs.Marking.{Of, entered, own_shown, own_walked, own_window}
use Rattle.line_draw.proofs.Drawn.{drawn_unseen, drawn_walked}
use Rattle.line_draw.proofs.draw.LineByDraw.mark.Given.{Over}
use Rattle.line_draw.proofs.draw.LineByDraw.mark.Goals.{After-enter-walker, Start}
use Rattle.line_draw.proofs.draw.LineByDraw.mark.Goals as goal

frm : (g : Over) (c : Start g) → Frame c.args.grid.window (length c.args.raster.now)
frm g c = grid_frame c.args.grid _ c.requires.1

pub line_of-line-requires : goal.line_of-line-requires
line_of-line-requires g c = ends_in c.args.self.ends c.requires.0

pub returns-then-steps : goal.returns-then-steps
returns-then-steps g c =
    let a = c.args in
    let facts = drawn_unseen a.self.ends a.grid.window a.raster.now (frm g (goal.at.returns-then-steps g c).Start) c.visible_steps-steps.result
    (rw c.line_of-line.ensures at c.visible_steps-steps.ensures) (λ i _. (c.type_inv.raster i).fits) (omega arith) in
    record { value = facts.0; raster_after = facts.1 }

pub enter-walker-requires : goal.enter-walker-requires
enter-walker-requires g c =
    let shown = shown_visible _ _ _ c.visible_steps-steps.ensures (omega arith) in
    (omega (arith, shown.some, shown.most, c.line_of-line.result.traced.long_is), shown.all _ (omega arith) shown.some)

-- the walker that enters
entered_at : (g : Over) (c : After-enter-walker g) → Of c.line_of-line.result.ends c.args.grid.window c.enter-walker.result
entered_at g c = entered c.enter-walker.ensures.0 c.enter-walker.ensures.1

pub walk-fresh-requires : goal.walk-fresh-requires
walk-fresh-requires g c =
    let at = entered_at g (goal.at.walk-fresh-requires g c).After-enter-walker in
    let shown = shown_visible _ _ _ c.visible_steps-steps.ensures (omega arith) in
    (own_window at _ c.requires.1, own_shown at (rw c.enter-walker.ensures.2 shown))

pub returns : goal.returns
returns g c =
    let a = c.args in
    let v = c.visible_steps-steps.result in
    let walked = own_walked (entered_at g (goal.at.returns g c).After-enter-walker) a.raster.now _ v.from v.end c.enter-walker.ensures.2
    c.walk-fresh.ensures.raster_after c.walk-fresh.ensures.bits_grow in
    let facts = drawn_walked a.self.ends a.grid.window a.raster.now (frm g (goal.at.returns g c).Start) v
    (rw c.line_of-line.ensures at c.visible_steps-steps.ensures) _ _ (rw c.line_of-line.ensures at walked) in
    record { value = rw (c.from.ensures, c.from-2.ensures) facts.0; raster_after = facts.1 }
