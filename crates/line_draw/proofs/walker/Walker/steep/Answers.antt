-- From 4L − 4S on both steps are diagonal; below it one is, since 4S is at least 2L.
use Rattle.std.proofs.Common.{arith}
use Rattle.line_draw.proofs.Pairing.{diagonal_diagonal, pair_on}
use Rattle.line_draw.proofs.walker.Walker.steep.Goals as goal

pub overflow_sub-result : goal.overflow_sub-result
overflow_sub-result c = let both = diagonal_diagonal c.args.self c.requires.shown (omega arith) in omega (arith, both.middle)

pub overflow_sub-result-then-decision-turns : goal.overflow_sub-result-then-decision-turns
overflow_sub-result-then-decision-turns c = let both = diagonal_diagonal c.args.self c.requires.shown (omega arith) in omega (arith, both.bit)

pub returns-then-decision-turns : goal.returns-then-decision-turns
returns-then-decision-turns c =
    let both = diagonal_diagonal c.args.self c.requires.shown (omega arith) in
    pair_on c.args.self c.requires.shown 1 1 _ both (omega (arith, both.middle)) (omega (arith, both.bit)) (omega arith) (omega arith)
