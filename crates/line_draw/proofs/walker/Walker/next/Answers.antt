-- The decision number tells a flat step from a diagonal one, and its stride leads to the next bit.
use Rattle.std.proofs.Common.{arith}
use Rattle.line_draw.proofs.Stepping.{flat_bit, flat_on, diagonal_bit, diagonal_on}
use Rattle.line_draw.proofs.walker.Walker.next.Goals as goal

pub overflow_sub-result : goal.overflow_sub-result
overflow_sub-result c = let bit = diagonal_bit c.args.self c.requires (omega arith) in omega arith

pub returns-then-turn-decision : goal.returns-then-turn-decision
returns-then-turn-decision c =
    let a = c.args.self in
    let bit = diagonal_bit a c.requires (omega arith) in
    diagonal_on a c.requires (omega arith) _ (omega arith) (omega arith)

pub overflow_sub-result-2 : goal.overflow_sub-result-2
overflow_sub-result-2 c = let bit = flat_bit c.args.self c.requires (omega arith) in omega arith

pub returns : goal.returns
returns c =
    let a = c.args.self in
    let bit = flat_bit a c.requires (omega arith) in
    flat_on a c.requires (omega arith) _ (omega arith) (omega arith)
