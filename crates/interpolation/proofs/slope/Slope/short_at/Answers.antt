-- The code divides as the definition does; on the line of one pixel both numbers are 0.
use Rattle.std.proofs.Common.{refl, sym}
use Rattle.interpolation.specs.Interpolation.{m, decision}
use Rattle.interpolation.proofs.Laws.{nothing}
use Rattle.interpolation.proofs.slope.Slope.short_at.Goals as goal

pub returns-then-self-eq0 : goal.returns-then-self-eq0
returns-then-self-eq0 c =
    let s = c.args.self in
    let n = nothing s.half s.long s.short c.args.i s.rounding s.short_most c.if-self-eq0.true in
    (sym n.0, sym n.1)

pub returns : goal.returns
unfolding m decision
returns c = (refl, refl)
