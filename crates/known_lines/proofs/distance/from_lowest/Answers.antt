-- The number passed the test, so its distance from the lowest coordinate is small.
use Rattle.std.proofs.Common.{sym, ◌∙◌, arith}
use Rattle.coordinate.proofs.Bias.{biased_lt}
use Rattle.known_lines.proofs.distance.from_lowest.Goals as goal

pub returns : goal.returns
returns c = omega (arith, c.biased.ensures, biased_lt _ (sym c.out_of_range.ensures ∙ c.if-out_of_range.false))
