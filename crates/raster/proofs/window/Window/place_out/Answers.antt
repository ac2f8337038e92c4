-- Both sides are tested; their sizes are lawful.
use mathlib.Core.Path.{◌≡◌, ap, ap₂, ◌∙◌}
use mathlib.Core.Bool.{false, ◌||◌}
use lib.IntN.{ℤ}
use mir.Syntax.{w32}
use mir.Facts.{to_z-of_z}
use Rattle.counting.proofs.Boolean.{or_neither}
use Rattle.raster.specs.Window.{side_out, size_out, side_place_out, place_out}
use Rattle.raster.specs.declared.window.Window.{Window}
use Rattle.raster.proofs.window.Window.place_out.Goals as goal

sides : (w : Window) → size_out w ≡ false → (side_out w.width ≡ false) × (side_out w.height ≡ false)
unfolding size_out
sides w e = or_neither (side_out w.width) (side_out w.height) e

pub side_place_out-requires : goal.side_place_out-requires
side_place_out-requires c = (sides _ c.requires).0

pub side_place_out-requires-2 : goal.side_place_out-requires-2
side_place_out-requires-2 c = (sides _ c.requires).1

pub returns : goal.returns
unfolding place_out
returns c = let w = c.args.self in
    ap₂ ◌||◌
    (c.side_place_out.ensures ∙ ap (λ (z : ℤ). side_place_out z w.width) (to_z-of_z {w = w32} (record { sfits = c.struct_told-1.given.0.1 })))
    (c.side_place_out-2.ensures ∙ ap (λ (z : ℤ). side_place_out z w.height) (to_z-of_z {w = w32} (record { sfits = c.struct_told-1.given.1.0.1 })))
