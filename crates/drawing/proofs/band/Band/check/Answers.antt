-- The frame's conditions come first; where they are passed the band's decides.
use mathlib.Core.Path.{◌≡◌, sym, ap, ◌∙◌}
use mathlib.Core.List.{[], ◌∷◌}
use Prim.Native.Nat.{ℕ}
use Rattle.refusal.specs.Refusal.{first_met, answer}
use Rattle.refusal.proofs.Conditions.{met, unmet, append_passed}
use Rattle.refusal.proofs.Handing.{passed, handed_err_more}
use Rattle.raster.specs.Window.{frame_conditions}
use Rattle.raster.proofs.Frames.{frame_numbered}
use Rattle.drawing.specs.Band.{band_out, rows_conditions}
use Rattle.drawing.proofs.band.Band.check.Goals.{In_ok-check_frame}
use Rattle.drawing.proofs.band.Band.check.Goals as goal

pub returns-in_err-check_frame : goal.returns-in_err-check_frame
returns-in_err-check_frame c = let a = c.args in
    handed_err_more c.from_residual.result _ c.from_residual.ensures.1 (frame_conditions a.window a.length)
    ((6, band_out a.window a.self) ∷ []) tt c.in_err-check_frame.ensures

-- the frame's conditions are passed, so the band's decides
module _ (c : In_ok-check_frame) where
  last_decides : let a = c.args in
      first_met (rows_conditions a.window a.length a.self) ≡ first_met ((6, band_out a.window a.self) ∷ [])
  last_decides =
      let a = c.args in
      append_passed (frame_conditions a.window a.length) _ (frame_numbered a.window a.length) (passed _ _ c.in_ok-check_frame.ensures)

pub returns-then-out : goal.returns-then-out
returns-then-out c = let a = c.args in
    ap (λ (n : ℕ). answer n tt)
    (sym (last_decides (goal.at.returns-then-out c).In_ok-check_frame ∙ met 6 (band_out a.window a.self) [] (sym c.out.ensures ∙ c.if-out.true)))

pub returns : goal.returns
unfolding first_met
returns c = let a = c.args in
    ap (λ (n : ℕ). answer n tt)
    (sym (last_decides (goal.at.returns c).In_ok-check_frame ∙ unmet 6 (band_out a.window a.self) [] (sym c.out.ensures ∙ c.if-out.false)))
