-- The conditions are tested in their order, those on the table by its own bytes.
use mathlib.Core.Path.{◌≡◌, sym, ap, ◌∙◌}
use mathlib.Core.Bool.{false}
use Rattle.reel.specs.Reel.{coordinates_out}
use Rattle.reel.specs.Reading.{file_out, table_out}
use native.Mathlib.Omega.{arith}
use Rattle.counting.proofs.Boolean.{or_neither}
use Rattle.reel.proofs.Conditions.{same_not, file_in, answer_10, answer_11, answer_12, of_none}
use Rattle.reel.proofs.Tests.{whole_off, table_same, front_size, records_same, rest_off}
use Rattle.reel.proofs.file.ReelFile.open.Goals.{Else-file_out, Else-table_off}
use Rattle.reel.proofs.file.ReelFile.open.Goals as goal

not_ten : (c : Else-file_out) → file_out c.args.file.now ≡ false
not_ten c = sym c.file_out.ensures ∙ c.if-file_out.false

not_eleven : (c : Else-table_off) → table_out c.args.file.now ≡ false
not_eleven c = rest_off c.in-Some.ensures ∙ sym c.table_off.ensures ∙ c.if-table_off.false

pub returns-then-file_out : goal.returns-then-file_out
returns-then-file_out c = answer_10 _ _ _ (sym c.file_out.ensures ∙ c.if-file_out.true)

pub returns-in_default : goal.returns-in_default
returns-in_default c = answer_11 _ _ _ (not_ten (goal.at.returns-in_default c).Else-file_out) (whole_off c.args.file.now c.in_default.ensures)

pub returns-then-table_off : goal.returns-then-table_off
returns-then-table_off c = answer_11 _ _ _ (not_ten (goal.at.returns-then-table_off c).Else-file_out) (rest_off c.in-Some.ensures ∙ sym c.table_off.ensures ∙ c.if-table_off.true)

pub returns-then-coordinates_out : goal.returns-then-coordinates_out
returns-then-coordinates_out c = let d = (goal.at.returns-then-coordinates_out c).Else-table_off in
    answer_12 _ _ _ (not_ten (goal.at.Else-table_off d).Else-file_out) (not_eleven d)
    (ap coordinates_out (sym (records_same c.in-Some.ensures)) ∙ sym c.coordinates_out.ensures ∙ c.if-coordinates_out.true)

pub invariant_of-result : goal.invariant_of-result
invariant_of-result c = let off = or_neither _ _ (sym c.table_off.ensures ∙ c.if-table_off.false) in
    let room = file_in c.args.file.now (not_ten (goal.at.invariant_of-result c).Else-file_out) in
    record {
      level = off.0;
      last = (same_not _ _).0 off.1;
      few = omega (arith, front_size c.in-Some.ensures, room.1, c.in-Some.ensures.whole);
    }

pub returns : goal.returns
returns c = let d = (goal.at.returns c).Else-table_off in
    let in_range = ap coordinates_out (sym (records_same c.in-Some.ensures)) ∙ sym c.coordinates_out.ensures ∙ c.if-coordinates_out.false in
    (of_none _ _ _ (not_ten (goal.at.Else-table_off d).Else-file_out, not_eleven d, in_range), table_same c.in-Some.ensures)
