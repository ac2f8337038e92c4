-- Past the check each float rounds to a coordinate.
use Rattle.refusal.proofs.Handing.{passed}
use Rattle.pen.proofs.Conditions.{Roundable, roundable}
use Rattle.pen.proofs.touched.touched_at.Goals.{In_ok-check_point}
use Rattle.pen.proofs.touched.touched_at.Goals as goal

rounds : (c : In_ok-check_point) → Roundable c.args.point
rounds c = roundable c.args.point (passed _ _ c.in_ok-check_point.ensures)

pub rounded-requires : goal.rounded-requires
rounded-requires c = let p = rounds c in record { is_finite = p.column_finite; in_range = p.column_in }

pub rounded-requires-2 : goal.rounded-requires-2
rounded-requires-2 c = let p = rounds (goal.at.rounded-requires-2 c).In_ok-check_point in record { is_finite = p.row_finite; in_range = p.row_in }
