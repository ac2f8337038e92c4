-- Below 2L − 4S both steps are flat; elsewhere one is, since 4S is below 2L.
use Rattle.std.proofs.Common.{arith}
use Rattle.line_draw.proofs.Pairing.{flat_flat, pair_on}
use Rattle.line_draw.proofs.walker.Walker.shallow.Goals as goal

pub overflow_sub-result : goal.overflow_sub-result
overflow_sub-result c = let both = flat_flat c.args.self c.requires.shown (omega arith) in omega (arith, both.middle)

pub overflow_sub-result-then-decision-turn : goal.overflow_sub-result-then-decision-turn
overflow_sub-result-then-decision-turn c = let both = flat_flat c.args.self c.requires.shown (omega arith) in omega (arith, both.bit)

pub returns-then-decision-turn : goal.returns-then-decision-turn
returns-then-decision-turn c =
    let both = flat_flat c.args.self c.requires.shown (omega arith) in
    pair_on c.args.self c.requires.shown 0 0 _ both (omega (arith, both.middle)) (omega (arith, both.bit)) (omega arith) (omega arith)
