-- Both parts are those of the definition, and their product is small.
use mathlib.Core.Path.{◌≡◌, refl, ap, ap₂, ◌∙◌}
use Prim.Native.Nat.{ℕ, ◌*◌}
use native.Mathlib.Omega.{arith}
use lib.IntN.{ℤ}
use mir.Syntax.{w32}
use mir.Val.{to_z, of_z}
use mir.Facts.{to_z-of_z}
use Rattle.coordinate.specs.Coordinate.{out_of_range}
use Rattle.raster.specs.declared.window.Window.{Window}
use Rattle.raster.proofs.Frames.{Placed}
use Rattle.raster.proofs.Grids.{grid_size, grid_place}
use Rattle.runs.specs.Painting.{natural}
use Rattle.runs.specs.Parts.{cut_part, turned_window, long_part, short_part, piece_of}
use Rattle.runs.specs.declared.cut.Part.{Part}
use Rattle.runs.proofs.Bad.{Lawful, lawful}
use Rattle.runs.proofs.CutRuns.{turned-placed, pixels_small}
use Rattle.runs.proofs.cut.cut_run.Goals.{After-cut-long, After-struct_known-2-1, After-turned-side, Start}
use Rattle.runs.proofs.cut.cut_run.Goals as goal

cut_cong : (l m f g : ℤ) (n o z y : ℕ) → l ≡ m → n ≡ o → f ≡ g → z ≡ y → cut_part l n f z ≡ cut_part m o g y
cut_cong l m f g n o z y a b d e = cc

-- the run, the turned window, and what is handed on of them
module _ (c : After-turned-side) where
  abbrev start : Start
  start = (goal.at.After-turned-side c).Start

  law : Lawful start.args.run
  law = lawful start.args.run start.requires

  place : Placed (turned_window start.args.axis start.args.grid.window)
  place = turned-placed start.args.axis start.args.grid.window (grid_place start.args.grid)

  pixels_is : to_z w32 (of_z w32 start.args.run.pixels) ≡ start.args.run.pixels
  pixels_is = to_z-of_z {w = w32} (record { sfits = c.type_inv.run.1.1.0.1 })

  number_is : c.natural_of-n.result ≡ natural start.args.run.pixels
  number_is = c.natural_of-n.ensures ∙ ap natural pixels_is

pub cut-long-requires : goal.cut-long-requires
cut-long-requires c = let t = (goal.at.cut-long-requires c).After-turned-side in (
  ap out_of_range (to_z-of_z {w = w32} (record { sfits = c.type_inv.run.1.0.1 })) ∙ (law t).lowest_in,
  ap out_of_range (to_z-of_z {w = w32} (record { sfits = c.type_inv.side.0.1 }) ∙ ap (λ (w : Window). w.left) c.turned-side.ensures) ∙ (place t).left_in,
  omega (arith, number_is t, (law t).end),
)

module _ (c : After-cut-long) where
  long_is : c.cut-long.result ≡ long_part (start (goal.at.After-cut-long c).After-turned-side).args.axis (start (goal.at.After-cut-long c).After-turned-side).args.run (start (goal.at.After-cut-long c).After-turned-side).args.grid.window
  long_is =
      let t = (goal.at.After-cut-long c).After-turned-side in
      c.cut-long.ensures
      ∙ cut_cong _ _ _ _ _ _ _ _
      (to_z-of_z {w = w32} (record { sfits = c.type_inv.run.1.0.1 }))
      (number_is t)
      (to_z-of_z {w = w32} (record { sfits = c.type_inv.side.0.1 }) ∙ ap (λ (w : Window). w.left) c.turned-side.ensures)
      (ap (λ (w : Window). w.width) c.turned-side.ensures)

pub cut-short-requires : goal.cut-short-requires
cut-short-requires c = let t = (goal.at.cut-short-requires c).After-turned-side in (
  ap out_of_range (to_z-of_z {w = w32} (record { sfits = c.type_inv.run.0.1 })) ∙ (law t).across_in,
  ap out_of_range (to_z-of_z {w = w32} (record { sfits = c.type_inv.side.1.0.1 }) ∙ ap (λ (w : Window). w.top) c.turned-side.ensures) ∙ (place t).top_in,
  omega arith,
)

-- both parts
module _ (c : After-struct_known-2-1) where
  abbrev begun : Start
  begun = start (goal.at.After-struct_known-2-1 c).After-turned-side

  long_part_lem : c.cut-long.result ≡ long_part begun.args.axis begun.args.run begun.args.grid.window
  long_part_lem = long_is (goal.at.After-struct_known-2-1 c).After-cut-long

  short_part_lem : c.cut-short.result ≡ short_part begun.args.axis begun.args.run begun.args.grid.window
  short_part_lem =
      c.cut-short.ensures
      ∙ cut_cong _ _ _ _ _ _ _ _
      (to_z-of_z {w = w32} (record { sfits = c.struct_told-4-1.given.0.1 }))
      refl
      (to_z-of_z {w = w32} (record { sfits = c.struct_told-5-1.given.1.0.1 }) ∙ ap (λ (w : Window). w.top) c.turned-side.ensures)
      (ap (λ (w : Window). w.height) c.turned-side.ensures)

pub overflow_mul-result : goal.overflow_mul-result
overflow_mul-result c = let s = begun c in
    let small = pixels_small s.args.axis s.args.run s.args.grid.window (grid_size s.args.grid) in
    let same = ap₂ (λ (p q : Part). p.pixels * q.pixels) (long_part_lem c) (short_part_lem c) in
    record { fits = omega arith }

pub returns : goal.returns
unfolding piece_of
returns c = ap₂ (λ (p q : Part). record { across = q.from; lowest = p.from; pixels = p.pixels * q.pixels }) (long_part_lem c) (short_part_lem c)
