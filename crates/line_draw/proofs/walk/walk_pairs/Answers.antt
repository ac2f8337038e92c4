-- A turn marks the walker's step and the next, in a pair; what is left after the last turn is one step or two.
use Rattle.std.proofs.Common.{◌≡◌, ◌+◌, arith, refl, true}
use Rattle.raster.proofs.Grids.{grid_frame}
use Rattle.line_draw.specs.Walk.{seen, step_bit}
use Rattle.line_draw.proofs.Stepping.{shown_part}
use Rattle.line_draw.proofs.Marking.{Of, Marked, marked-first, marked_few, marked_in, marked_on, marked_end, of_on, own_shown, own_in, own_on}
use Rattle.line_draw.proofs.walk.walk_pairs.Goals.{After-advance, After-advance_pair-middle, After-put_bit-fresh, After-put_bit-fresh-2, After-put_bit-fresh-in-loop-walker, After-put_bit-fresh-then-walker-end}
use Rattle.line_draw.proofs.walk.walk_pairs.Goals as goal

pub loop-walker-init : goal.loop-walker-init
loop-walker-init c =
    record {
      walk = record { ends_is = refl; window_is = refl };
      left = c.requires.1.some;
      marked = marked-first (grid_frame c.args.start.grid _ c.requires.0) (λ i _. (c.type_inv.raster i).fits);
    }

-- ---- a turn
pub put_bit-fresh-requires : goal.put_bit-fresh-requires
put_bit-fresh-requires c = (refl, own_in c.loop-walker.invariant.walk (grid_frame c.args.start.grid _ c.requires.0) c.loop-walker.invariant.marked)

module _ (c : After-put_bit-fresh) where
  first : Marked c.args.start.line.ends c.args.start.grid.window c.args.raster.now c.args.start.step c.put_bit-fresh.new.raster
      (c.loop-walker.fresh + c.put_bit-fresh.result) (c.loop-walker.walker.step + 1)
  first =
      own_on c.loop-walker.invariant.walk (grid_frame c.args.start.grid _ c.requires.0) c.loop-walker.invariant.marked _
      (c.put_bit-fresh.ensures.raster_after, c.put_bit-fresh.ensures.bits_grow)

pub overflow_add-fresh : goal.overflow_add-fresh
overflow_add-fresh c =
    let few = marked_few (grid_frame c.args.start.grid _ c.requires.0) (first (goal.at.overflow_add-fresh c).After-put_bit-fresh) in
    record { fits = omega arith }

pub advance_pair-middle-requires : goal.advance_pair-middle-requires
advance_pair-middle-requires c =
    let now = c.loop-walker.invariant in
    own_shown now.walk (shown_part c.requires.1 _ _ now.marked.begun (omega arith) (omega arith))

-- the pixel between
module _ (c : After-advance_pair-middle) where
  middle_bit : c.advance_pair-middle.result ≡ step_bit c.args.start.line.ends c.args.start.grid.window (c.loop-walker.walker.step + 1)
  middle_bit =
      let walk = c.loop-walker.invariant.walk in rw (walk.ends_is, walk.window_is) at c.advance_pair-middle.ensures.middle

  middle_seen : seen c.args.start.line.ends c.args.start.grid.window (c.loop-walker.walker.step + 1) ≡ true
  middle_seen = c.requires.1.all _ (omega (arith, c.loop-walker.invariant.marked.begun)) (omega (arith, c.loop-walker-test.true))

pub put_bit-fresh-requires-in-loop-walker : goal.put_bit-fresh-requires-in-loop-walker
put_bit-fresh-requires-in-loop-walker c =
    let at = (goal.at.put_bit-fresh-requires-in-loop-walker c).After-advance_pair-middle in
    (refl, marked_in (grid_frame c.args.start.grid _ c.requires.0) _ (first (goal.at.put_bit-fresh-requires-in-loop-walker c).After-put_bit-fresh) (middle_bit at) (middle_seen at))

module _ (c : After-put_bit-fresh-in-loop-walker) where
  second : Marked c.args.start.line.ends c.args.start.grid.window c.args.raster.now c.args.start.step c.put_bit-fresh-in-loop-walker.new.raster
      (c.loop-walker.fresh + c.put_bit-fresh.result + c.put_bit-fresh-in-loop-walker.result) (c.loop-walker.walker.step + 1 + 1)
  second =
      let at = (goal.at.After-put_bit-fresh-in-loop-walker c).After-advance_pair-middle in
      marked_on (grid_frame c.args.start.grid _ c.requires.0) _ (first (goal.at.After-put_bit-fresh-in-loop-walker c).After-put_bit-fresh)
      (c.put_bit-fresh-in-loop-walker.ensures.raster_after, c.put_bit-fresh-in-loop-walker.ensures.bits_grow) (middle_bit at) (middle_seen at)

pub overflow_add-fresh-in-loop-walker : goal.overflow_add-fresh-in-loop-walker
overflow_add-fresh-in-loop-walker c =
    let few = marked_few (grid_frame c.args.start.grid _ c.requires.0) (second (goal.at.overflow_add-fresh-in-loop-walker c).After-put_bit-fresh-in-loop-walker) in
    record { fits = omega arith }

pub loop-walker-preserved : goal.loop-walker-preserved
loop-walker-preserved c =
    let ahead = c.advance_pair-middle.ensures.ahead in
    let step : c.loop-walker.walker.step + 1 + 1 ≡ c.advance_pair-middle.new.self.step = omega (arith, ahead.step_is) in
    record {
      walk = of_on c.loop-walker.invariant.walk ahead;
      left = omega (arith, c.loop-walker-test.true);
      marked = rw step at (second (goal.at.loop-walker-preserved c).After-put_bit-fresh-in-loop-walker);
    }

-- ---- after the loop
pub put_bit-fresh-requires-2 : goal.put_bit-fresh-requires-2
put_bit-fresh-requires-2 c = (refl, own_in c.loop-walker.invariant.walk (grid_frame c.args.start.grid _ c.requires.0) c.loop-walker.invariant.marked)

module _ (c : After-put_bit-fresh-2) where
  one : Marked c.args.start.line.ends c.args.start.grid.window c.args.raster.now c.args.start.step c.put_bit-fresh-2.new.raster
      (c.loop-walker.fresh + c.put_bit-fresh-2.result) (c.loop-walker.walker.step + 1)
  one =
      own_on c.loop-walker.invariant.walk (grid_frame c.args.start.grid _ c.requires.0) c.loop-walker.invariant.marked _
      (c.put_bit-fresh-2.ensures.raster_after, c.put_bit-fresh-2.ensures.bits_grow)

pub overflow_add-fresh-2 : goal.overflow_add-fresh-2
overflow_add-fresh-2 c =
    let few = marked_few (grid_frame c.args.start.grid _ c.requires.0) (one (goal.at.overflow_add-fresh-2 c).After-put_bit-fresh-2) in
    record { fits = omega arith }

pub advance-requires : goal.advance-requires
advance-requires c =
    let now = c.loop-walker.invariant in
    own_shown now.walk (shown_part c.requires.1 _ _ now.marked.begun (omega arith) (omega arith))

-- the last step, where two were left
module _ (c : After-advance) where
  walk : Of c.args.start.line.ends c.args.start.grid.window c.advance.new.self
  walk = of_on c.loop-walker.invariant.walk c.advance.ensures

  but_last : Marked c.args.start.line.ends c.args.start.grid.window c.args.raster.now c.args.start.step c.put_bit-fresh-2.new.raster
      (c.loop-walker.fresh + c.put_bit-fresh-2.result) c.advance.new.self.step
  but_last = rw c.advance.ensures.step_is (one (goal.at.After-advance c).After-put_bit-fresh-2)

pub put_bit-fresh-requires-then-walker-end : goal.put_bit-fresh-requires-then-walker-end
put_bit-fresh-requires-then-walker-end c =
    let at = (goal.at.put_bit-fresh-requires-then-walker-end c).After-advance in (refl, own_in (walk at) (grid_frame c.args.start.grid _ c.requires.0) (but_last at))

module _ (c : After-put_bit-fresh-then-walker-end) where
  two : Marked c.args.start.line.ends c.args.start.grid.window c.args.raster.now c.args.start.step c.put_bit-fresh-then-walker-end.new.raster
      (c.loop-walker.fresh + c.put_bit-fresh-2.result + c.put_bit-fresh-then-walker-end.result) (c.advance.new.self.step + 1)
  two =
      let at = (goal.at.After-put_bit-fresh-then-walker-end c).After-advance in
      own_on (walk at) (grid_frame c.args.start.grid _ c.requires.0) (but_last at) _
      (c.put_bit-fresh-then-walker-end.ensures.raster_after, c.put_bit-fresh-then-walker-end.ensures.bits_grow)

pub overflow_add-fresh-then-walker-end : goal.overflow_add-fresh-then-walker-end
overflow_add-fresh-then-walker-end c =
    let few = marked_few (grid_frame c.args.start.grid _ c.requires.0) (two (goal.at.overflow_add-fresh-then-walker-end c).After-put_bit-fresh-then-walker-end) in
    record { fits = omega arith }

pub returns-then-walker-end : goal.returns-then-walker-end
returns-then-walker-end c =
    let end : c.advance.new.self.step + 1 ≡ c.args.end = omega (arith, c.loop-walker-test.false, c.if-walker-end.true, c.advance.ensures.step_is) in
    let all = marked_end (grid_frame c.args.start.grid _ c.requires.0) c.args.end (two (goal.at.returns-then-walker-end c).After-put_bit-fresh-then-walker-end) end in
    record { raster_after = all.0; bits_grow = all.1 }

pub returns-else-walker-end : goal.returns-else-walker-end
returns-else-walker-end c =
    let end : c.loop-walker.walker.step + 1 ≡ c.args.end = omega (arith, c.loop-walker.invariant.left, c.if-walker-end.false) in
    let all = marked_end (grid_frame c.args.start.grid _ c.requires.0) c.args.end (one (goal.at.returns-else-walker-end c).After-put_bit-fresh-2) end in
    record { raster_after = all.0; bits_grow = all.1 }
