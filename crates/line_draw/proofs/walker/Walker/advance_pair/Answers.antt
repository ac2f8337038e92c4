-- So do the next two steps.
use Rattle.std.proofs.Common.{◌+◌, arith}
use Rattle.line_draw.proofs.Stepping.{walks_on}
use Rattle.line_draw.proofs.walker.Walker.advance_pair.Goals as goal

pub invariant_of-self : goal.invariant_of-self
invariant_of-self c =
    let a = c.args.self.now in
    let two = c.two-two.ensures in
    record {
      walking = walks_on a (a.step + 2) (a.step + 3) c.requires (omega arith) (omega arith)
          (record { bit_is = two.bit_is; decision_is = two.decision_is; decision_bounded = two.decision_bounded });
    }
