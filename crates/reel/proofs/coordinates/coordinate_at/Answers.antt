-- The k-th number of the definition's list, read where it stands.
use mathlib.Core.Path.{sym, ap, ◌∙◌}
use Prim.Native.Nat.{◌*◌}
use mir.Syntax.{w16, w32}
use mir.Val.{to_z}
use mir.ValLaws.{to_z-of_z}
use Rattle.reel.specs.Numbers.{number_at}
use Rattle.reel.proofs.Bytes.{two_read, signed_is}
use Rattle.reel.proofs.Numbers.{number_small}
use Rattle.reel.proofs.Records.{coordinates-at}
use Rattle.reel.proofs.coordinates.coordinate_at.Goals as goal

pub returns : goal.returns
returns c = let s = c.args.bytes.now in
    let at = 2 * c.args.k in
    to_z-of_z w32 c.from.result (record { sfits = c.from.type_inv })
    ∙ c.from.ensures
    ∙ to_z-of_z w16 c.from_le_bytes.result (record { sfits = c.from_le_bytes.type_inv })
    ∙ c.from_le_bytes.ensures
    ∙ ap (to_z w16) (two_read s at)
    ∙ signed_is (number_at 2 s at) (number_small s (λ i _. (c.type_inv.bytes i).fits) 2 at)
    ∙ sym (coordinates-at s c.args.k c.requires)
