-- The steps in both sides, taken as long and short by the line's axis, are the visible ones.
use Rattle.std.proofs.Common.{◌≡◌, arith, rules}
use Rattle.coordinate.specs.Coordinate.{biased}
use Rattle.coordinate.proofs.Bias.{biased_lt}
use Rattle.line_draw.proofs.Within.{lawful}
use Rattle.line_draw.proofs.Intervals.{visible}
use Rattle.line_draw.proofs.visible.visible_steps.Goals as goal

pub biased-left-requires : goal.biased-left-requires
biased-left-requires c = let place = (lawful c.args.grid.window c.args.grid.within).place in search rules

pub biased-top-requires : goal.biased-top-requires
biased-top-requires c = let place = (lawful c.args.grid.window c.args.grid.within).place in search rules

pub side_of-x-requires : goal.side_of-x-requires
side_of-x-requires c =
    let f = lawful c.args.grid.window c.args.grid.within in
    let left : c.biased-left.result ≡ biased c.args.grid.window.left = search rules in
    (omega (arith, biased_lt _ f.place.left_in), f.size.width_max)

pub side_of-y-requires : goal.side_of-y-requires
side_of-y-requires c =
    let f = lawful c.args.grid.window c.args.grid.within in
    let top : c.biased-top.result ≡ biased c.args.grid.window.top = search rules in
    (omega (arith, biased_lt _ f.place.top_in), f.size.height_max)

pub returns : goal.returns
returns c =
    let a = c.args in
    let left : c.biased-left.result ≡ biased a.grid.window.left = search rules in
    let top : c.biased-top.result ≡ biased a.grid.window.top = search rules in
    visible a.line a.grid.window (lawful a.grid.window a.grid.within).place _ _ _
    (rw left at c.side_of-x.ensures)
    (rw top at c.side_of-y.ensures)
    (rw (c.along-long.ensures, c.along-short.ensures) at c.both_of.ensures)
