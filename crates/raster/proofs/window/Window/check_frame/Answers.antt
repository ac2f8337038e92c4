-- The window's conditions come first; where they are passed the length decides.
use Rattle.std.proofs.Common.{◌≡◌, sym, ◌∙◌, [], ◌∷◌, ℕ}
use lib.Dec.{lit≤}
use Rattle.refusal.specs.Refusal.{first_met}
use Rattle.refusal.proofs.Conditions.{append_passed}
use Rattle.refusal.proofs.Handing.{passed, handed_err_more}
use Rattle.raster.specs.Window.{window_conditions, frame_conditions, length_off}
use Rattle.raster.specs.declared.window.Window.{Window}
use Rattle.raster.proofs.Frames.{size_in}
use Rattle.raster.proofs.window.Window.check_frame.Goals as goal

pub returns-in_err-check : goal.returns-in_err-check
returns-in_err-check c =
    let w = c.args.self in
    handed_err_more c.from_residual.result _ c.from_residual.ensures.1 (window_conditions w) ((4, length_off w c.args.length) ∷ []) tt c.in_err-check.ensures

-- where the window is passed the number is that of the length's condition
rest : (w : Window) (n : ℕ) → first_met (window_conditions w) ≡ 0 → first_met (frame_conditions w n) ≡ first_met ((4, length_off w n) ∷ [])
rest w n e = append_passed (window_conditions w) ((4, length_off w n) ∷ []) (lit≤ tt, (lit≤ tt, tt)) e

pub length_off-requires : goal.length_off-requires
length_off-requires c = size_in c.args.self _ (passed _ _ c.in_ok-check.ensures)

pub returns-then-length_off : goal.returns-then-length_off
unfolding first_met
returns-then-length_off c = rw (rest c.args.self c.args.length (passed _ _ c.in_ok-check.ensures), sym c.length_off.ensures ∙ c.if-length_off.true)

pub returns : goal.returns
unfolding first_met
returns c = rw (rest c.args.self c.args.length (passed _ _ c.in_ok-check.ensures), sym c.length_off.ensures ∙ c.if-length_off.false)
