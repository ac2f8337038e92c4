-- The code's column and row are those of the step's pixel, which lies in the window.
use Rattle.std.proofs.Common.{ℕ, ◌-◌, ◌≡◌, ◌≤◌, arith, rules, sym, ap, ap₂, ◌∙◌, true}
use Rattle.coordinate.specs.Coordinate.{biased, along}
use Rattle.refusal.specs.Refusal.{first_met}
use Rattle.raster.specs.Bits.{bit_of}
use Rattle.raster.specs.Window.{window_conditions}
use Rattle.raster.specs.declared.window.Window.{Window}
use Rattle.raster.proofs.Grids.{grid_in}
use Rattle.line.specs.Line.{long}
use Rattle.line.specs.Distance.{distance}
use Rattle.line.specs.Trace.{away}
use Rattle.line.specs.declared.trace.Line.{Line}
use Rattle.line.proofs.Pixels.{step_column, step_row, traced_m}
use Rattle.line_draw.specs.Walk.{seen, step_bit, step_decision}
use Rattle.line_draw.proofs.Within.{lawful, Within, step_x, step_y, step_within, step_bit_lem, traced_decision}
use Rattle.line_draw.proofs.Stepping.{bounded_enters}
use Rattle.line_draw.proofs.walker.spot_of.Goals.{After-biased-2, After-short_at-short, Start}
use Rattle.line_draw.proofs.walker.spot_of.Goals as goal

-- its bit is the step's
bit_at : (l : Line) (w : Window) (i : ℕ) {b x y : ℕ} → first_met (window_conditions w) ≡ 0 → i ≤ long l.ends → seen l.ends w i ≡ true
    → b ≡ bit_of w x y → x ≡ step_x l i - biased w.left → y ≡ step_y l i - biased w.top → b ≡ step_bit l.ends w i
bit_at l w i f p h e q r = e ∙ ap₂ (bit_of w) q r ∙ sym (step_bit_lem l w (lawful w f).place i p h)

module _ (l : Line) (i : ℕ) {d n x : ℕ} (d_is : d ≡ distance l.ends i) where
  x_is : n ≡ along l.axis i d → x ≡ away l.columns.grows l.columns.start n → x ≡ step_x l i
  x_is e f = f ∙ ap (away l.columns.grows l.columns.start) (e ∙ ap (along l.axis i) d_is)

  y_is : n ≡ along l.axis d i → x ≡ away l.rows.grows l.rows.start n → x ≡ step_y l i
  y_is e f = f ∙ ap (away l.rows.grows l.rows.start) (e ∙ ap (λ (k : ℕ). along l.axis k i) d_is)

module _ (c : Start) where
  on_line_lem : c.args.i ≤ long c.args.line.ends
  on_line_lem = omega (arith, c.requires.0, c.args.line.traced.long_is)

  inside : Within c.args.grid.window (step_x c.args.line c.args.i) (step_y c.args.line c.args.i)
  inside = (step_within c.args.line c.args.grid.window (lawful c.args.grid.window c.args.grid.within).place c.args.i on_line_lem).0 c.requires.1

module _ (c : After-short_at-short) where
  short_is : c.short_at-short.result.distance ≡ distance c.args.line.ends c.args.i
  short_is = c.short_at-short.ensures.0 ∙ traced_m c.args.line c.args.i

  decision_is : c.short_at-short.result.decision ≡ step_decision c.args.line.ends c.args.i
  decision_is = c.short_at-short.ensures.1 ∙ traced_decision c.args.line c.args.i

pub at-x-requires : goal.at-x-requires
at-x-requires c =
    let l = c.args.line in
    let way = (step_column l c.args.i (on_line_lem (goal.at.at-x-requires c).Start)).way in
    omega (arith, c.along.ensures ∙ ap (along l.axis c.args.i) (short_is (goal.at.at-x-requires c).After-short_at-short))

pub at-y-requires : goal.at-y-requires
at-y-requires c =
    let l = c.args.line in
    let way = (step_row l c.args.i (on_line_lem (goal.at.at-y-requires c).Start)).way in
    omega (arith, c.along-2.ensures ∙ ap (λ (d : ℕ). along l.axis d c.args.i) (short_is (goal.at.at-y-requires c).After-short_at-short))

pub biased-requires : goal.biased-requires
biased-requires c = let place = (lawful c.args.grid.window c.args.grid.within).place in search rules

pub overflow_sub-column : goal.overflow_sub-column
overflow_sub-column c =
    let place = inside (goal.at.overflow_sub-column c).Start in
    let x = x_is c.args.line c.args.i (short_is (goal.at.overflow_sub-column c).After-short_at-short) c.along.ensures c.at-x.ensures in
    let left : c.biased.result ≡ biased c.args.grid.window.left = search rules in
    omega arith

pub biased-requires-2 : goal.biased-requires-2
biased-requires-2 c = let place = (lawful c.args.grid.window c.args.grid.within).place in search rules

-- the pixel's place in the window, as the code has it
module _ (c : After-biased-2) where
  x : c.at-x.result ≡ step_x c.args.line c.args.i
  x = x_is c.args.line c.args.i (short_is (goal.at.After-biased-2 c).After-short_at-short) c.along.ensures c.at-x.ensures

  y : c.at-y.result ≡ step_y c.args.line c.args.i
  y = y_is c.args.line c.args.i (short_is (goal.at.After-biased-2 c).After-short_at-short) c.along-2.ensures c.at-y.ensures

  left : c.biased.result ≡ biased c.args.grid.window.left
  left = search rules

  top : c.biased-2.result ≡ biased c.args.grid.window.top
  top = search rules

pub overflow_sub-row : goal.overflow_sub-row
overflow_sub-row c = omega (arith, inside (goal.at.overflow_sub-row c).Start, y c, top c)

pub bit_of-bit-requires : goal.bit_of-bit-requires
bit_of-bit-requires c =
    let b = (goal.at.bit_of-bit-requires c).After-biased-2 in
    let place = inside (goal.at.bit_of-bit-requires c).Start in
    (grid_in c.args.grid, omega (arith, x b, left b), omega (arith, y b, top b))

pub returns : goal.returns
returns c =
    let s = (goal.at.returns c).Start in
    let made = (goal.at.returns c).After-biased-2 in
    let decision = decision_is (goal.at.returns c).After-short_at-short in
    record {
      bit_is = bit_at s.args.line s.args.grid.window s.args.i s.args.grid.within (on_line_lem s) s.requires.1 c.bit_of-bit.ensures
          (ap₂ ◌-◌ (x made) (left made)) (ap₂ ◌-◌ (y made) (top made));
      decision_is = decision;
      decision_bounded = bounded_enters s.args.line.ends s.args.i _ decision;
    }
