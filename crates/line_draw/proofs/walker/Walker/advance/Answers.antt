-- The next step lies in the window too.
use Rattle.std.proofs.Common.{◌+◌, arith}
use Rattle.line_draw.proofs.Stepping.{walks_on}
use Rattle.line_draw.proofs.walker.Walker.advance.Goals as goal

pub invariant_of-self : goal.invariant_of-self
invariant_of-self c =
    let a = c.args.self.now in
    record { walking = walks_on a (a.step + 1) (a.step + 2) c.requires (omega arith) (omega arith) c.next-self.ensures }
