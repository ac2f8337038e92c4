-- Where no float is infinite or a NaN, both can be rounded.
use Rattle.pen.proofs.Conditions.{both_finite}
use Rattle.pen.proofs.touched.rounded_out.Goals as goal

pub rounds_out-requires : goal.rounds_out-requires
rounds_out-requires c = (both_finite c.args.point c.requires).0

pub rounds_out-requires-else-rounds_out : goal.rounds_out-requires-else-rounds_out
rounds_out-requires-else-rounds_out c = (both_finite c.args.point c.requires).1
