-- The code's cast and its two comparisons are those of `Rounds`.
use mathlib.Core.Path.{◌≡◌, sym, ap, ◌∙◌, subst}
use lib.IntN.{ℤ, pos, ◌+ℤ◌, ◌-ℤ◌}
use lib.Ieee.{binary32, of_bits, neg, fits, to_signed}
use mir.Syntax.{w32}
use mir.Val.{SFits, to_z, of_z}
use mir.ValLaws.{to_z-of_z}
use Rattle.counting.proofs.Boolean.{to_T}
use Rattle.pen.proofs.Nearest.{Rounds, rounds, whole_part}
use Rattle.pen.proofs.rounding.rounded.Goals.{Start}
use Rattle.pen.proofs.rounding.rounded.Goals as goal

module _ (c : Start) where
  facts : Rounds c.args.x
  facts = rounds c.args.x (to_T (fits binary32 c.args.x) c.well_formed.0.1) c.requires.is_finite c.requires.in_range

  abbrev whole : ℤ
  whole = to_signed 31 (whole_part c.args.x)

  -- as the machine holds it
  held : to_z w32 (of_z w32 whole) ≡ whole
  held = to_z-of_z w32 whole facts.fit.stays_fit

pub float_to_int-whole : goal.float_to_int-whole
unfolding of_bits
float_to_int-whole c = (facts (goal.at.float_to_int-whole c).Start).exact

pub overflow_sub-result : goal.overflow_sub-result
unfolding of_bits
overflow_sub-result c = subst (λ (z : ℤ). SFits w32 (z -ℤ pos 1)) (sym (held (goal.at.overflow_sub-result c).Start)) (facts (goal.at.overflow_sub-result c).Start).fit.less_fits

pub overflow_add-result : goal.overflow_add-result
unfolding of_bits
overflow_add-result c = subst (λ (z : ℤ). SFits w32 (z +ℤ pos 1)) (sym (held (goal.at.overflow_add-result c).Start)) (facts (goal.at.overflow_add-result c).Start).fit.more_fits

pub returns-then-fraction : goal.returns-then-fraction
unfolding of_bits neg
returns-then-fraction c = to_z-of_z w32 (to_z w32 (of_z w32 (whole (goal.at.returns-then-fraction c).Start)) -ℤ pos 1) (overflow_sub-result c)
    ∙ ap (λ (z : ℤ). z -ℤ pos 1) (held (goal.at.returns-then-fraction c).Start)
    ∙ (facts (goal.at.returns-then-fraction c).Start).lower c.if-fraction.true

pub returns-then-fraction-2 : goal.returns-then-fraction-2
unfolding of_bits neg
returns-then-fraction-2 c = held (goal.at.returns-then-fraction-2 c).Start ∙ (facts (goal.at.returns-then-fraction-2 c).Start).same c.if-fraction.false c.if-fraction-2.true

pub returns-else-fraction-2 : goal.returns-else-fraction-2
unfolding of_bits neg
returns-else-fraction-2 c = to_z-of_z w32 (to_z w32 (of_z w32 (whole (goal.at.returns-else-fraction-2 c).Start)) +ℤ pos 1) (overflow_add-result c)
    ∙ ap (λ (z : ℤ). z +ℤ pos 1) (held (goal.at.returns-else-fraction-2 c).Start)
    ∙ (facts (goal.at.returns-else-fraction-2 c).Start).upper c.if-fraction-2.false
