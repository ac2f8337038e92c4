-- An odd first step is marked by itself; the pairs that follow mark the rest, and both together are all steps.
use Rattle.std.proofs.Common.{ℕ, ◌≡◌, ◌+◌, ◌%◌, length, arith, rules, refl, ap, ◌∙◌}
use native.Mathlib.Nat.{zero-add}
use Rattle.raster.proofs.Frames.{raster_max}
use Rattle.raster.proofs.Grids.{grid_frame}
use Rattle.raster.proofs.Plus.{plus-length}
use Rattle.raster.proofs.Fresh.{fresh_most}
use Rattle.line_draw.proofs.Stepping.{shown_part}
use Rattle.line_draw.proofs.Marking.{Of, Marked, Walked, itself, marked-first, marked-length, marked_end, of_on, own_shown, own_in, own_on, own_walked, own_window}
use Rattle.line_draw.proofs.Pairing.{marked-rest}
use Rattle.line_draw.proofs.walk.DoubleStepWalk.walk.Goals.{After-advance, After-put_bit-fresh, After-walk_pairs-2}
use Rattle.line_draw.proofs.walk.DoubleStepWalk.walk.Goals as goal

-- ---- the single step
pub put_bit-fresh-requires : goal.put_bit-fresh-requires
put_bit-fresh-requires c =
    let none = marked-first (grid_frame c.args.start.grid _ c.requires.0) (λ i _. search rules) in
    (refl, own_in (itself c.args.start) (grid_frame c.args.start.grid _ c.requires.0) none)

module _ (c : After-put_bit-fresh) where
  one : Marked c.args.start.line.ends c.args.start.grid.window c.args.raster.now c.args.start.step c.put_bit-fresh.new.raster
      c.put_bit-fresh.result (c.args.start.step + 1)
  one =
      let none = marked-first (grid_frame c.args.start.grid _ c.requires.0) (λ i _. search rules) in
      rw (zero-add c.put_bit-fresh.result) at
      (own_on (itself c.args.start) (grid_frame c.args.start.grid _ c.requires.0) none _ (c.put_bit-fresh.ensures.raster_after, c.put_bit-fresh.ensures.bits_grow))

pub returns-then-walker-end : goal.returns-then-walker-end
returns-then-walker-end c =
    let all = marked_end (grid_frame c.args.start.grid _ c.requires.0) c.args.end (one (goal.at.returns-then-walker-end c).After-put_bit-fresh) (omega arith) in
    record { raster_after = all.0; bits_grow = all.1 }

pub advance-requires : goal.advance-requires
advance-requires c = shown_part c.requires.1 _ _ (omega arith) (omega arith) (omega (arith, c.requires.1.some))

-- ---- the pairs after it
odd : (n : ℕ) → (n % 2 ≡ 0 → ⊥) → (n + 1) % 2 ≡ 0
odd n h = omega arith

next : (c : After-advance) → Of c.args.start.line.ends c.args.start.grid.window c.advance.new.self
next c = of_on (itself c.args.start) c.advance.ensures

pub walk_pairs-requires-2 : goal.walk_pairs-requires-2
walk_pairs-requires-2 c =
    let at = next (goal.at.walk_pairs-requires-2 c).After-advance in
    let step = c.advance.ensures.step_is in (
      own_window at _ (rw (marked-length (grid_frame c.args.start.grid _ c.requires.0) (one (goal.at.walk_pairs-requires-2 c).After-put_bit-fresh)) c.requires.0),
      own_shown at (shown_part c.requires.1 _ _ (omega arith) (omega (arith, c.requires.1.some)) (omega arith)),
      rw step (odd c.args.start.step (λ e. absurd (omega arith))),
    )

-- together they are all steps
module _ (c : After-walk_pairs-2) where
  all : Walked c.args.start.line.ends c.args.start.grid.window c.args.raster.now c.args.start.step c.args.end c.walk_pairs-2.new.raster
      (c.put_bit-fresh.result + c.walk_pairs-2.result)
  all =
      marked-rest c.args.end _ (one (goal.at.After-walk_pairs-2 c).After-put_bit-fresh) (omega (arith, c.requires.1.some))
      (own_walked (next (goal.at.After-walk_pairs-2 c).After-advance) c.put_bit-fresh.new.raster _ (c.args.start.step + 1) c.args.end
      c.advance.ensures.step_is c.walk_pairs-2.ensures.raster_after c.walk_pairs-2.ensures.bits_grow)

pub overflow_add-result : goal.overflow_add-result
overflow_add-result c =
    let both = all (goal.at.overflow_add-result c).After-walk_pairs-2 in
    let most = fresh_most _ _ _ (ap length both.0 ∙ plus-length _ _ _) (raster_max _ _ (grid_frame c.args.start.grid _ c.requires.0)) both.1 in
    record { fits = omega arith }

pub returns : goal.returns
returns c =
    let both = all (goal.at.returns c).After-walk_pairs-2 in record { raster_after = both.0; bits_grow = both.1 }
