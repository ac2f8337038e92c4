-- A minus below 0, and the digits behind it.
use Rattle.std.proofs.Common.{◌≡◌, ◌∙◌, ap}
use lib.IntN.{nat_abs}
use mir.Syntax.{w32}
use mir.ValLaws.{to_z-of_z}
use Rattle.lineruns_text.proofs.Placing.{both}
use Rattle.lineruns_text.proofs.Printed.{signed_below, signed_natural}
use Rattle.lineruns_text.proofs.text.Text.push_signed.Goals.{then-z-lt0, else-z-lt0}
use Rattle.lineruns_text.proofs.text.Text.push_signed.Goals as goal

pub returns : goal.returns
returns c =
    let same = to_z-of_z w32 c.args.z c.ranges.z in
    let size : c.unsigned_abs.result ≡ nat_abs c.args.z = c.unsigned_abs.ensures.value ∙ ap nat_abs same in
    let digits = rw size at c.push_decimal.ensures in
    elim c.if-z-lt0.branch [
      | then-z-lt0 w ↦ rw (signed_below c.args.z (rw same at w.if-z-lt0.true)) (both w.push.ensures (rw w.self-is at digits))
      | else-z-lt0 w ↦ rw (signed_natural c.args.z (rw same at w.if-z-lt0.false)) (rw w.self-is at digits)
    ]
