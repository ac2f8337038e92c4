-- Both comparisons are those of `out_is`.
use mathlib.Core.Path.{refl, sym, ap, ◌∙◌}
use mathlib.Core.Bool.{Bool, not, ◌||◌}
use lib.Ieee.{of_bits, neg, lt}
use Rattle.pen.proofs.Compare.{at_least}
use Rattle.pen.proofs.Range.{past, out_is}
use Rattle.pen.proofs.rounding.rounds_out.Goals as goal

pub returns-then-x : goal.returns-then-x
unfolding of_bits neg
returns-then-x c = let x = c.args.x in
    c.if-x.true ∙ sym (out_is x c.requires ∙ ap (λ (t : Bool). t || not (lt x past)) c.if-x.true)

pub returns-else-x : goal.returns-else-x
unfolding of_bits neg
returns-else-x c = let x = c.args.x in
    at_least past x refl c.requires ∙ sym (out_is x c.requires ∙ ap (λ (t : Bool). t || not (lt x past)) c.if-x.false)
