-- The word, then the number and the end of the line.
use Rattle.std.proofs.Common.{arith, ℕ, length, ap, length-append}
use Rattle.lineruns_text.proofs.Placing.{both}
use Rattle.lineruns_text.proofs.Printed.{refused_is}
use Rattle.lineruns_text.proofs.text.Text.push_refused.Goals as goal

pub push-requires : goal.push-requires
push-requires c = omega (arith, ap length (refused_is c.args.n (omega arith)), length-append {A = ℕ})

pub push_number-requires : goal.push_number-requires
push_number-requires c = omega (arith, ap length (refused_is c.args.n (omega arith)), length-append {A = ℕ})

pub returns : goal.returns
returns c = rw (refused_is c.args.n (omega arith)) (both c.push.ensures c.push_number.ensures)
