-- Both ends are tested.
use Rattle.std.proofs.Common.{rules}
use Rattle.refusal.specs.Refusal.{first_met}
use Rattle.line.specs.Line.{ends_out}
use Rattle.line.proofs.ends.Ends.check.Goals as goal

pub returns-then-pixel_out : goal.returns-then-pixel_out
unfolding first_met ends_out
returns-then-pixel_out c = search rules

pub returns : goal.returns
unfolding first_met ends_out
returns c = search rules
