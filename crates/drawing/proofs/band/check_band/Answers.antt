-- The figure's conditions come first; where they are passed the band's decide.
use mathlib.Core.Path.{sym, ap, ◌∙◌}
use Prim.Native.Nat.{ℕ}
use Rattle.refusal.specs.Refusal.{answer}
use Rattle.refusal.proofs.Conditions.{append_passed}
use Rattle.refusal.proofs.Handing.{passed, handed_err_more}
use Rattle.drawing.specs.Band.{rows_conditions}
use Rattle.drawing.proofs.band.check_band.Goals as goal

pub returns-in_err-check : goal.returns-in_err-check
returns-in_err-check g c = let a = c.args in
    handed_err_more c.from_residual.result _ c.from_residual.ensures.1 (g.D.Draw.figure a.drawing).refusals (rows_conditions a.window a.length a.band) tt
    c.in_err-check.ensures

pub returns : goal.returns
returns g c = let a = c.args in
    let none = passed _ _ c.in_ok-check.ensures in
    c.check-2.ensures
    ∙ ap (λ (n : ℕ). answer n tt)
    (sym (append_passed (g.D.Draw.figure a.drawing).refusals (rows_conditions a.window a.length a.band) (g.met.D.Draw.drawable a.drawing).numbered none))
