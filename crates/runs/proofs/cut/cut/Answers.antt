-- Each part of the definition is one of the code's.
use mathlib.Core.Path.{◌≡◌, ap, ap₂, ◌∙◌}
use Prim.Native.Nat.{ℕ, ◌+◌, ◌-◌, min}
use native.Mathlib.Omega.{arith}
use mir.Syntax.{w32}
use mir.Facts.{to_z-of_z}
use Rattle.coordinate.specs.Coordinate.{biased}
use Rattle.coordinate.proofs.Bias.{biased_lt}
use Rattle.runs.specs.Parts.{cut_part}
use Rattle.runs.proofs.cut.cut.Goals.{After-biased-origin}
use Rattle.runs.proofs.cut.cut.Goals as goal

-- the two biased coordinates
module _ (c : After-biased-origin) where
  start_is : c.biased-start.result ≡ biased c.args.low
  start_is = c.biased-start.ensures ∙ ap biased (to_z-of_z {w = w32} c.ranges.low)

  origin_is : c.biased-origin.result ≡ biased c.args.first
  origin_is = c.biased-origin.ensures ∙ ap biased (to_z-of_z {w = w32} c.ranges.first)

pub overflow_add-start : goal.overflow_add-start
overflow_add-start c = record { fits = omega (arith, start_is (goal.at.overflow_add-start c).After-biased-origin, biased_lt c.args.low c.requires.0, c.requires.2) }

pub returns : goal.returns
unfolding cut_part
returns c = let two = (goal.at.returns c).After-biased-origin in
    let from_is = c.saturating_sub-from.ensures ∙ ap₂ ◌-◌ (start_is two) (origin_is two) in
    let past_is = c.saturating_sub-past.ensures ∙ ap₂ (λ (x y : ℕ). x + c.args.n - y) (start_is two) (origin_is two) in
    ap₂ (λ (x y : ℕ). record { from = x; pixels = y }) from_is
    (c.saturating_sub.ensures ∙ ap₂ ◌-◌ (c.min-end.ensures ∙ ap (λ (x : ℕ). min x c.args.size) past_is) from_is)
