-- The first step of a run has the closed form; before the first run and past the last there is nothing to divide.
use Rattle.std.proofs.Common.{arith, sym}
use Rattle.interpolation.proofs.RunLaws.{first-zero, first_past, first_closed}
use Rattle.interpolation.proofs.slope.Slope.first_step.Goals as goal

pub returns-then-k-eq0 : goal.returns-then-k-eq0
returns-then-k-eq0 c = let s = c.args.self in rw c.if-k-eq0.true (sym (first-zero s.half s.long s.short))

pub returns-then-self-k : goal.returns-then-self-k
returns-then-self-k c = sym (first_past {k = c.args.k} c.args.self.rounding (omega arith))

pub returns : goal.returns
returns c = let s = c.args.self in sym (first_closed {k = c.args.k} s.rounding s.short_most (omega arith) (omega arith))
