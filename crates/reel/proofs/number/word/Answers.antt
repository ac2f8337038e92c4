-- The definition's four bytes, the low one first.
use mathlib.Core.Path.{◌∙◌}
use Rattle.reel.proofs.Bytes.{four_read}
use Rattle.reel.proofs.number.word.Goals as goal

pub returns : goal.returns
returns c = c.from_le_bytes.ensures ∙ four_read c.args.bytes.now c.args.at
