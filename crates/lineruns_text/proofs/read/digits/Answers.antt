-- The value so far and the bytes that are left make what all the digits make; i digits make less than 10 to the power i.
use Rattle.std.proofs.Common.{arith, rules}
use Rattle.std.proofs.lemmas.Grind.{common_steps}
use native.Mathlib.Nat.{pow-succ'}
use Rattle.lineruns_text.proofs.Numbers.{value_step, value_end}
use Rattle.lineruns_text.specs.Reading.{digits}
use Rattle.lineruns_text.proofs.read.digits.Goals as goal

pub returns-then-not-contains-clause-value : goal.returns-then-not-contains-clause-value
unfolding digits
returns-then-not-contains-clause-value c = search rules

pub loop-byte-init : goal.loop-byte-init
unfolding digits
loop-byte-init c = search rules

pub returns-then-not-is_ascii_digit-clause-value : goal.returns-then-not-is_ascii_digit-clause-value
returns-then-not-is_ascii_digit-clause-value c =
    let s = value_step c.loop-byte.value c.loop-byte.byte-index c.args.text.now (omega arith) in grind (arith, common_steps)

pub loop-byte-preserved : goal.loop-byte-preserved
loop-byte-preserved c =
    let s = value_step c.loop-byte.value c.loop-byte.byte-index c.args.text.now (omega arith) in
    let p = pow-succ' 10 c.loop-byte.byte-index in grind (arith, common_steps)

pub returns-clause-value : goal.returns-clause-value
returns-clause-value c = let s = value_end c.loop-byte.value c.loop-byte.byte-index c.args.text.now (omega arith) in grind (arith, common_steps)
