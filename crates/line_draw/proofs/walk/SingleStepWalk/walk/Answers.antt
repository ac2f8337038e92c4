-- Each turn marks one step more, and after the last all are marked.
use Rattle.std.proofs.Common.{◌≡◌, ◌+◌, arith, rules, refl}
use native.Mathlib.Nat.{zero-add}
use Rattle.raster.proofs.Grids.{grid_frame}
use Rattle.line_draw.proofs.Stepping.{shown_part}
use Rattle.line_draw.proofs.Marking.{Of, Marked, itself, marked-first, marked_few, marked_end, of_on, own_shown, own_in, own_on}
use Rattle.line_draw.proofs.walk.SingleStepWalk.walk.Goals.{After-advance, After-put_bit-fresh-in-loop-i}
use Rattle.line_draw.proofs.walk.SingleStepWalk.walk.Goals as goal

pub put_bit-fresh-requires : goal.put_bit-fresh-requires
put_bit-fresh-requires c =
    let none = marked-first (grid_frame c.args.start.grid _ c.requires.0) (λ i _. search rules) in
    (refl, own_in (itself c.args.start) (grid_frame c.args.start.grid _ c.requires.0) none)

pub loop-i-init : goal.loop-i-init
loop-i-init c =
    let none = marked-first (grid_frame c.args.start.grid _ c.requires.0) (λ i _. search rules) in
    let first = own_on (itself c.args.start) (grid_frame c.args.start.grid _ c.requires.0) none _ (c.put_bit-fresh.ensures.raster_after, c.put_bit-fresh.ensures.bits_grow) in
    record {
      walk = itself c.args.start;
      step_is = refl;
      within = omega (arith, c.requires.1.some);
      marked = rw (zero-add c.put_bit-fresh.result) at first;
    }

pub advance-requires : goal.advance-requires
advance-requires c = own_shown c.loop-i.invariant.walk (shown_part c.requires.1 _ _ (omega arith) (omega arith) (omega arith))

-- the next step
module _ (c : After-advance) where
  walk : Of c.args.start.line.ends c.args.start.grid.window c.advance.new.self
  walk = of_on c.loop-i.invariant.walk c.advance.ensures

  before : Marked c.args.start.line.ends c.args.start.grid.window c.args.raster.now c.args.start.step c.loop-i.raster c.loop-i.fresh c.advance.new.self.step
  before =
      let step : c.loop-i._i ≡ c.advance.new.self.step = omega (arith, c.loop-i.invariant.step_is, c.advance.ensures.step_is) in
      rw step at c.loop-i.invariant.marked

pub put_bit-fresh-requires-in-loop-i : goal.put_bit-fresh-requires-in-loop-i
put_bit-fresh-requires-in-loop-i c =
    let at = (goal.at.put_bit-fresh-requires-in-loop-i c).After-advance in (refl, own_in (walk at) (grid_frame c.args.start.grid _ c.requires.0) (before at))

module _ (c : After-put_bit-fresh-in-loop-i) where
  more : Marked c.args.start.line.ends c.args.start.grid.window c.args.raster.now c.args.start.step c.put_bit-fresh-in-loop-i.new.raster
      (c.loop-i.fresh + c.put_bit-fresh-in-loop-i.result) (c.advance.new.self.step + 1)
  more =
      let at = (goal.at.After-put_bit-fresh-in-loop-i c).After-advance in
      own_on (walk at) (grid_frame c.args.start.grid _ c.requires.0) (before at) _
      (c.put_bit-fresh-in-loop-i.ensures.raster_after, c.put_bit-fresh-in-loop-i.ensures.bits_grow)

pub overflow_add-fresh : goal.overflow_add-fresh
overflow_add-fresh c =
    let few = marked_few (grid_frame c.args.start.grid _ c.requires.0) (more (goal.at.overflow_add-fresh c).After-put_bit-fresh-in-loop-i) in
    record { fits = omega arith }

pub loop-i-preserved : goal.loop-i-preserved
loop-i-preserved c =
    let step : c.advance.new.self.step + 1 ≡ c.loop-i._i + 1 = omega (arith, c.loop-i.invariant.step_is, c.advance.ensures.step_is) in
    record {
      walk = walk (goal.at.loop-i-preserved c).After-advance;
      step_is = step;
      within = omega arith;
      marked = rw step at (more (goal.at.loop-i-preserved c).After-put_bit-fresh-in-loop-i);
    }

pub returns : goal.returns
returns c =
    let all = marked_end (grid_frame c.args.start.grid _ c.requires.0) c.args.end c.loop-i.invariant.marked (omega (arith, c.loop-i.invariant.within, c.loop-i-test.false)) in
    record { raster_after = all.0; bits_grow = all.1 }
