-- std's four bytes are those of the definition.
use mathlib.Core.Path.{◌∙◌}
use Rattle.reel.proofs.Bytes.{four_written}
use Rattle.reel.proofs.stored.U32Stored4.to_bytes.Goals as goal

pub returns : goal.returns
returns c = c.to_le_bytes.ensures ∙ four_written c.args.self
