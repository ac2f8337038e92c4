-- After k turns the first k bytes are appended.
use Rattle.std.proofs.Common.{take}
use Rattle.lineruns_text.specs.Written.{Appended}
use Rattle.lineruns_text.proofs.text.Text.push.Given as goal

abbrev pub invariant-loop-byte : goal.invariant-loop-byte
invariant-loop-byte l = Appended (take l.byte-index l.bytes) l.initial.self l.self
