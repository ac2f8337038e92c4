-- The window itself, or its two sides exchanged.
use mathlib.Core.Path.{◌≡◌}
use mir.Syntax.{w32}
use mir.Val.{to_z, of_z}
use mir.Facts.{to_z-of_z}
use Rattle.runs.proofs.cut.turned.Goals as goal

pub returns-in-X : goal.returns-in-X
returns-in-X c = rw c.in-X.is

pub returns-in-Y : goal.returns-in-Y
returns-in-Y c = let w = c.args.window in
    let left_is : to_z w32 (of_z w32 w.left) ≡ w.left = to_z-of_z {w = w32} (record { sfits = c.struct_told-1.given.0.1 }) in
    let top_is : to_z w32 (of_z w32 w.top) ≡ w.top = to_z-of_z {w = w32} (record { sfits = c.struct_told-1.given.1.0.1 }) in
    rw (c.in-Y.is, top_is, left_is)
