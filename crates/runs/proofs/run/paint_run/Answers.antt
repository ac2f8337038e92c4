-- What is left of the run is filled along its axis; where nothing is left, no pixel of the window is the run's.
use Prim.Native.Nat.{ℕ, ◌+◌}
use mathlib.Core.Path.{◌≡◌, sym, ap, ◌∙◌}
use native.Mathlib.Omega.{arith}
use lib.ListN.{length}
use Rattle.coordinate.specs.declared.axis.Axis.TheVariants.{X, Y}
use Rattle.raster.specs.Raster.{plus}
use Rattle.raster.specs.Fresh.{bit_count}
use Rattle.raster.proofs.Frames.{Frame}
use Rattle.raster.proofs.Grids.{grid_frame}
use Rattle.raster.proofs.Plus.{plus-length}
use Rattle.runs.specs.Run.{in_run}
use Rattle.runs.specs.Parts.{run_of}
use Rattle.runs.specs.declared.cut.Piece.{Piece}
use Rattle.runs.proofs.Bad.{Lawful, lawful}
use Rattle.runs.proofs.Painting.{piece_in, piece_counted, run_missed, run_counted, filled_row, filled_column}
use Rattle.runs.proofs.run.paint_run.Goals.{in-X, in-Y, After-cut_run-piece, Joined-axis, Start}
use Rattle.runs.proofs.run.paint_run.Goals as goal

module _ (c : After-cut_run-piece) where
  abbrev start : Start
  start = (goal.at.After-cut_run-piece c).Start

  in_frame : Frame start.args.grid.window (length start.args.raster.now)
  in_frame = grid_frame start.args.grid _ start.requires.1

  law : Lawful start.args.run
  law = lawful start.args.run start.requires.0

pub returns-then-n-eq0 : goal.returns-then-n-eq0
returns-then-n-eq0 c = let t = (goal.at.returns-then-n-eq0 c).After-cut_run-piece in
    let a = (start t).args in
    let none = ap (λ (p : Piece). p.pixels) (sym c.cut_run-piece.ensures) ∙ c.if-n-eq0.true in
    let same = run_missed a.axis a.run a.grid.window a.raster.now (in_frame t) (law t) none (λ i _. (c.type_inv.raster i).fits) in
    record {
      value = run_counted a.axis a.run a.grid.window a.raster.now (in_frame t) (law t) 0 0 a.raster.now
          (sym c.if-n-eq0.true ∙ piece_counted a.axis a.run a.grid.window _ c.cut_run-piece.ensures (in_frame t).place (law t)) same (omega arith);
      raster_after = same;
    }

pub fill_span-fresh-requires : goal.fill_span-fresh-requires
fill_span-fresh-requires c = let t = (goal.at.fill_span-fresh-requires c).After-cut_run-piece in
    let a = (start t).args in
    let q = piece_in X a.run a.grid.window _ (rw c.in-X.is at c.cut_run-piece.ensures) c.if-n-eq0.false in
    ((start t).requires.1, q.1, omega (arith, c.if-n-eq0.false), q.0)

pub fill_column-fresh-requires : goal.fill_column-fresh-requires
fill_column-fresh-requires c = let t = (goal.at.fill_column-fresh-requires c).After-cut_run-piece in
    let a = (start t).args in
    let q = piece_in Y a.run a.grid.window _ (rw c.in-Y.is at c.cut_run-piece.ensures) c.if-n-eq0.false in
    ((start t).requires.1, q.1, omega (arith, c.if-n-eq0.false), q.0)

-- along either axis the run is filled, and `fresh` is what the bits grew by
module _ (c : Joined-axis) where
  filled : let a = (start (goal.at.Joined-axis c).After-cut_run-piece).args in
      (c.match-axis.raster ≡ plus a.grid.window a.raster.now (in_run a.axis (run_of a.run)))
      × (bit_count c.match-axis.raster ≡ bit_count a.raster.now + c.match-axis.fresh)
  filled =
      let t = (goal.at.Joined-axis c).After-cut_run-piece in
      let a = (start t).args in
      elim c.match-axis.branch [
        | in-X x ↦ (
          x.raster-is ∙ x.fill_span-fresh.ensures.raster_after ∙ filled_row a.axis a.run a.grid.window a.raster.now (in_frame t) (law t) _ c.cut_run-piece.ensures x.in-X.is,
          rw (x.raster-is, x.fresh-is) x.fill_span-fresh.ensures.bits_grow,
        )
        | in-Y y ↦ (
          y.raster-is ∙ y.fill_column-fresh.ensures.raster_after ∙ filled_column a.axis a.run a.grid.window a.raster.now (in_frame t) (law t) _ c.cut_run-piece.ensures y.in-Y.is,
          rw (y.raster-is, y.fresh-is) y.fill_column-fresh.ensures.bits_grow,
        )
      ]

pub shape_of-raster : goal.shape_of-raster
shape_of-raster c = ap length (filled (goal.at.shape_of-raster c).Joined-axis).0 ∙ plus-length _ _ _

pub returns : goal.returns
returns c = let t = (goal.at.returns c).After-cut_run-piece in
    let a = (start t).args in
    let f = filled (goal.at.returns c).Joined-axis in record {
      value = run_counted a.axis a.run a.grid.window a.raster.now (in_frame t) (law t) _ _ _
          (c.from.ensures ∙ piece_counted a.axis a.run a.grid.window _ c.cut_run-piece.ensures (in_frame t).place (law t)) f.0
          (f.1 ∙ ap (λ (n : ℕ). bit_count a.raster.now + n) (sym c.from-2.ensures));
      raster_after = f.0;
    }
