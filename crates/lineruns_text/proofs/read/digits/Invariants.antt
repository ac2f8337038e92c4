-- The value so far and the bytes that are left make what all the digits make; i digits make less than 10 to the power i.
use Rattle.std.proofs.Common.{◌≡◌, ◌<◌, ◌^◌, drop}
use Rattle.lineruns_text.specs.Reading.{value_from, digits}
use Rattle.lineruns_text.proofs.read.digits.Given as goal

abbrev pub invariant-loop-byte : goal.invariant-loop-byte
invariant-loop-byte l = (l.value < 10 ^ l.byte-index) × (digits l.text ≡ value_from l.value (drop l.byte-index l.text))
