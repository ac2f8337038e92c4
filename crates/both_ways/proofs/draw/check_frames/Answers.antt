-- The line's conditions come first; where they are passed the second raster's decides.
use mathlib.Core.Path.{ap, ◌∙◌}
use mathlib.Core.List.{[], ◌∷◌}
use Prim.Native.Nat.{ℕ}
use Rattle.refusal.specs.Refusal.{answer}
use Rattle.refusal.proofs.Handing.{passed, handed_err_more}
use Rattle.raster.specs.Window.{length_off}
use Rattle.drawing.specs.Drawing.{draw_conditions}
use Rattle.line.specs.Figure.{line_figure}
use Rattle.both_ways.proofs.BothLaws.{second_frame}
use Rattle.both_ways.proofs.draw.check_frames.Goals as goal

pub returns-in_err-check_whole : goal.returns-in_err-check_whole
returns-in_err-check_whole c = let a = c.args in
    handed_err_more c.from_residual.result _ c.from_residual.ensures.1 (draw_conditions (line_figure a.ends) a.window a.painted)
    ((4, length_off a.window a.banded) ∷ []) tt
    (rw c.new.ensures at c.in_err-check_whole.ensures)

pub returns : goal.returns
returns c = let a = c.args in
    c.check_frame.ensures
    ∙ ap (λ (n : ℕ). answer n tt) (second_frame a.ends a.window a.painted a.banded (passed _ _ (rw c.new.ensures at c.in_ok-check_whole.ensures)))
