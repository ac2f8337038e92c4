-- A coordinate fits in 16 bits, and stands there by its two's complement.
use mathlib.Core.Path.{ap, ◌∙◌}
use mir.Syntax.{w16, w32}
use mir.Val.{of_z}
use mir.ValLaws.{to_z-of_z}
use Rattle.reel.specs.Numbers.{bytes_of}
use Rattle.reel.proofs.Bytes.{two_written, complement_is, coordinate_fits}
use Rattle.reel.proofs.stored.I32Stored2.to_bytes.Goals as goal

pub overflow_cast-self : goal.overflow_cast-self
overflow_cast-self c = rw (to_z-of_z w32 c.args.self c.ranges.self) (coordinate_fits c.args.self c.requires)

pub returns : goal.returns
returns c = let z = c.args.self in
    rw (to_z-of_z w32 z c.ranges.self, to_z-of_z w16 z (coordinate_fits z c.requires)) at c.to_le_bytes.ensures
    ∙ two_written (of_z w16 z)
    ∙ ap (bytes_of 2) (complement_is z)
