-- The word, the letter and the second word, then the number and the end of the line.
use Rattle.std.proofs.Common.{arith, ℕ, length, ap, length-append}
use Rattle.lineruns_text.proofs.Placing.{both}
use Rattle.lineruns_text.proofs.Printed.{axis_is}
use Rattle.lineruns_text.proofs.text.Text.push_axis.Goals as goal

pub push-requires : goal.push-requires
push-requires c = omega (arith, ap length (axis_is c.args.letter c.args.runs (omega arith)), length-append {A = ℕ})

pub push-requires-2 : goal.push-requires-2
push-requires-2 c = omega (arith, ap length (axis_is c.args.letter c.args.runs (omega arith)), length-append {A = ℕ})

pub push-requires-3 : goal.push-requires-3
push-requires-3 c = omega (arith, ap length (axis_is c.args.letter c.args.runs (omega arith)), length-append {A = ℕ})

pub push_number-requires : goal.push_number-requires
push_number-requires c = omega (arith, ap length (axis_is c.args.letter c.args.runs (omega arith)), length-append {A = ℕ})

pub returns : goal.returns
returns c = rw (axis_is c.args.letter c.args.runs (omega arith)) (both c.push.ensures (both c.push-2.ensures (both c.push-3.ensures c.push_number.ensures)))
