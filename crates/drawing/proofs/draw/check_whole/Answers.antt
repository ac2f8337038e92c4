-- The figure's conditions come first; where they are passed the frame's decide.
use mathlib.Core.Path.{sym, ap, ◌∙◌}
use Prim.Native.Nat.{ℕ}
use Rattle.refusal.specs.Refusal.{answer}
use Rattle.refusal.proofs.Conditions.{append_passed}
use Rattle.refusal.proofs.Handing.{passed, handed_err_more}
use Rattle.raster.specs.Window.{frame_conditions}
use Rattle.drawing.proofs.draw.check_whole.Goals as goal

pub returns-in_err-check : goal.returns-in_err-check
returns-in_err-check g c =
    handed_err_more c.from_residual.result _ c.from_residual.ensures.1 (g.D.Draw.figure c.args.drawing).refusals (frame_conditions c.args.window c.args.length) tt
    c.in_err-check.ensures

pub returns : goal.returns
returns g c =
    let none = passed _ _ c.in_ok-check.ensures in
    c.check_frame.ensures
    ∙ ap (λ (n : ℕ). answer n tt)
    (sym (append_passed (g.D.Draw.figure c.args.drawing).refusals (frame_conditions c.args.window c.args.length) (g.met.D.Draw.drawable c.args.drawing).numbered none))
