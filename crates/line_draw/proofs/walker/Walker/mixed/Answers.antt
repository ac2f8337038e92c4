-- The decision number says which of the two steps is the diagonal one; the bit after both is the same either way.
use Rattle.std.proofs.Common.{arith}
use Rattle.line_draw.proofs.Pairing.{flat_diagonal, diagonal_flat, mixed_bit, pair_on}
use Rattle.line_draw.proofs.walker.Walker.mixed.Goals as goal

pub overflow_sub-after : goal.overflow_sub-after
overflow_sub-after c =
    let p = c.requires.one_diagonal in
    let bit = mixed_bit c.args.self c.requires.shown p.0 p.1 in
    omega arith

pub overflow_sub-result : goal.overflow_sub-result
overflow_sub-result c =
    let both = flat_diagonal c.args.self c.requires.shown c.requires.one_diagonal.0 (omega arith) in omega (arith, both.middle)

pub returns-then-decision-turn : goal.returns-then-decision-turn
returns-then-decision-turn c =
    let both = flat_diagonal c.args.self c.requires.shown c.requires.one_diagonal.0 (omega arith) in
    pair_on c.args.self c.requires.shown 0 1 _ both (omega (arith, both.middle)) (omega (arith, both.bit)) (omega arith) (omega arith)

pub overflow_sub-result-2 : goal.overflow_sub-result-2
overflow_sub-result-2 c =
    let both = diagonal_flat c.args.self c.requires.shown (omega arith) c.requires.one_diagonal.1 in omega (arith, both.middle)

pub returns : goal.returns
returns c =
    let both = diagonal_flat c.args.self c.requires.shown (omega arith) c.requires.one_diagonal.1 in
    pair_on c.args.self c.requires.shown 1 0 _ both (omega (arith, both.middle)) (omega (arith, both.bit)) (omega arith) (omega arith)
