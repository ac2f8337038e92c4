-- Each of the record's four numbers is read where it stands, and signed values come back as they are.
use mathlib.Core.Path.{◌∙◌}
use mir.Syntax.{w32}
use mir.ValLaws.{to_z-of_z}
use Rattle.reel_draw.proofs.records.Records.line.Goals as goal

pub returns : goal.returns
returns c = rw (
  to_z-of_z w32 c.coordinate_at.result (record { sfits = c.coordinate_at.type_inv }) ∙ c.coordinate_at.ensures,
  to_z-of_z w32 c.coordinate_at-2.result (record { sfits = c.coordinate_at-2.type_inv }) ∙ c.coordinate_at-2.ensures,
  to_z-of_z w32 c.coordinate_at-3.result (record { sfits = c.coordinate_at-3.type_inv }) ∙ c.coordinate_at-3.ensures,
  to_z-of_z w32 c.coordinate_at-4.result (record { sfits = c.coordinate_at-4.type_inv }) ∙ c.coordinate_at-4.ensures,
)
