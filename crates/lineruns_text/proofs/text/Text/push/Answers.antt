-- Each turn appends one byte to the text so far.
use Rattle.std.proofs.Common.{ℕ, arith, refl, length-take}
use Rattle.std.proofs.lemmas.List.{take_more}
use Rattle.lineruns_text.proofs.Placing.{both, nothing, one}
use Rattle.lineruns_text.proofs.text.Text.push.Goals as goal

pub loop-byte-init : goal.loop-byte-init
loop-byte-init c = nothing c.args.self.now (omega arith)

pub loop-byte-preserved : goal.loop-byte-preserved
loop-byte-preserved c =
    rw (take_more c.args.bytes.now c.loop-byte.byte-index 0 (omega arith))
    (both c.loop-byte.invariant (one (omega (arith, length-take {A = ℕ})) refl refl refl))
