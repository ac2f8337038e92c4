-- Nothing is found while what is passed is unmarked: the rows above, the bytes before and the bits before.
use Prim.Native.Nat.{ℕ, ◌*◌}
use mathlib.Core.Path.{◌≡◌, sym, ap, ◌∙◌}
use native.Mathlib.Omega.{arith}
use Rattle.raster.proofs.Grids.{grid_size}
use Rattle.raster_read.proofs.Passing.{bytes_on, bit_on, pixel_is, bit_set, bit_clear}
use Rattle.raster_read.proofs.Searching.{none_marked, first_is}
use Rattle.raster_read.proofs.search.first_cell.Goals.{then-column-width+else-b-bit-eq1, else-column-width, After-row_start-start}
use Rattle.raster_read.proofs.search.first_cell.Goals as goal

-- the row that is looked at begins at its number times the bytes of a row
start_is : (c : After-row_start-start) → c.row_start-start.result ≡ c.rows.row * c.row_bytes-bytes.result
start_is c = c.row_start-start.ensures ∙ ap (λ (b : ℕ). c.rows.row * b) (sym c.row_bytes-bytes.ensures)

pub loop-byte-preserved-then-zeros-gt0 : goal.loop-byte-preserved-then-zeros-gt0
loop-byte-preserved-then-zeros-gt0 c = record {
  in_row = omega arith;
  nothing = c.loop-byte.invariant.nothing;
  passed = bytes_on c.args.raster.now _ _ _ _ _ _ (start_is (goal.at.loop-byte-preserved-then-zeros-gt0 c).After-row_start-start) c.zero_bytes-zeros.ensures.1 c.loop-byte.invariant.passed;
}

pub loop-bit-preserved : goal.loop-bit-preserved
loop-bit-preserved c = record {
  nothing = c.loop-bit.invariant.nothing;
  passed =
      bit_on c.args.raster.now _ _ _ _ _ c.loop-bit.bit (start_is (goal.at.loop-bit-preserved c).After-row_start-start) (omega arith)
      (elim c.if-column-width.branch [
        | then-column-width+else-b-bit-eq1 w ↦ λ i. bit_clear _ _ w.if-b-bit-eq1.false
        | else-column-width w ↦ λ i. absurd (omega arith)
      ])
      c.loop-bit.invariant.passed;
}

pub returns-after-rows : goal.returns-after-rows
returns-after-rows c = c.rows.invariant.nothing
    ∙ none_marked c.args.grid.window c.args.raster.now _ c.row_bytes-bytes.ensures
    (grid_size c.args.grid).width_min
    (λ x y h l. c.rows.invariant.passed x y h (omega arith))

pub returns-then-b-bit-eq1 : goal.returns-then-b-bit-eq1
returns-then-b-bit-eq1 c =
    first_is c.args.grid.window c.args.raster.now _ c.row_bytes-bytes.ensures c.rows.row _
    c.if-column-width.true
    c.rows.invariant.passed
    c.loop-bit.invariant.passed
    (omega arith)
    (pixel_is c.args.raster.now _ _ _ _ c.loop-bit.bit (start_is (goal.at.returns-then-b-bit-eq1 c).After-row_start-start) (omega arith) ∙ bit_set _ _ c.if-b-bit-eq1.true)
