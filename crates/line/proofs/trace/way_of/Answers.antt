-- A coordinate in range is less than 32768 above the lowest.
use Rattle.std.proofs.Common.{rules}
use Rattle.coordinate.proofs.Bias.{biased_lt}
use Rattle.line.proofs.trace.way_of.Goals as goal

pub invariant_of-result : goal.invariant_of-result
invariant_of-result c = let low = biased_lt c.args.from c.requires in record { start_in = search rules }
