-- A number from 10 on has one digit more than its tenth.
use Rattle.std.proofs.Common.{arith}
use Rattle.std.proofs.lemmas.Fmt.{length-decimal-le, decimal_nonempty}
use Rattle.itoa.proofs.Decimal.{length_step_wide, length_one}
use Rattle.lineruns_text.proofs.text.places.Goals as goal

pub loop-rest-init : goal.loop-rest-init
loop-rest-init c = (omega arith, omega arith)

pub overflow_add-count : goal.overflow_add-count
overflow_add-count c = omega (arith, length-decimal-le 10 c.args.n (omega arith) (omega arith) (omega arith), decimal_nonempty c.loop-rest.rest (omega arith))

pub loop-rest-smaller : goal.loop-rest-smaller
loop-rest-smaller c = omega arith

pub loop-rest-preserved : goal.loop-rest-preserved
loop-rest-preserved c = (omega arith, omega (arith, length_step_wide c.loop-rest.rest c.loop-rest-test.true (omega arith)))

pub returns : goal.returns
returns c = omega (arith, length_one c.loop-rest.rest c.loop-rest-test.false)
