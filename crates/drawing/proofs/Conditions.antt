-- The conditions of a drawing are the figure's and then those of the frame, and of the band.
use Prim.Native.Nat.{ℕ, suc}
use mathlib.Core.Path.{◌≡◌, sym, ap, ◌∙◌}
use mathlib.Core.Bool.{cond}
use mathlib.Core.List.{[], ◌∷◌, append_assoc}
use Rattle.refusal.specs.Refusal.{first_met}
use Rattle.refusal.proofs.Conditions.{append_met, append_passed, append_none}
use Rattle.raster.specs.Window.{frame_conditions}
use Rattle.raster.specs.declared.window.Window.{Window}
use Rattle.raster.proofs.Frames.{Frame, frame, frame_numbered}
use Rattle.drawing.specs.Figure.{Figure, Drawable}
use Rattle.drawing.specs.Drawing.{draw_conditions}
use Rattle.drawing.specs.Band.{band_out, rows_conditions, band_conditions}
use Rattle.drawing.specs.declared.band.Band.{Band}

module _ (f : Figure) (d : Drawable f) (w : Window) (n : ℕ) where
  -- where none is met, the figure and the frame meet none; and the other way round
  module _ (h : first_met (draw_conditions f w n) ≡ 0) where
    pub figure_in : first_met f.refusals ≡ 0
    figure_in = (append_none f.refusals (frame_conditions w n) d.numbered h).0

    pub frame_in : first_met (frame_conditions w n) ≡ 0
    frame_in = (append_none f.refusals (frame_conditions w n) d.numbered h).1

    pub draw_frame : Frame w n
    draw_frame = frame w n frame_in

  pub frame_decides : first_met f.refusals ≡ 0 → first_met (draw_conditions f w n) ≡ first_met (frame_conditions w n)
  frame_decides e = append_passed f.refusals (frame_conditions w n) d.numbered e

  -- the same in a band
  module _ (b : Band) where
    module _ (h : first_met (band_conditions f w n b) ≡ 0) where
      pub figure_passed : first_met f.refusals ≡ 0
      figure_passed = (append_none f.refusals (rows_conditions w n b) d.numbered h).0

      pub rows_passed : first_met (rows_conditions w n b) ≡ 0
      rows_passed = (append_none f.refusals (rows_conditions w n b) d.numbered h).1

    pub rows_decide : first_met f.refusals ≡ 0 → first_met (band_conditions f w n b) ≡ first_met (rows_conditions w n b)
    rows_decide e = append_passed f.refusals (rows_conditions w n b) d.numbered e

    -- past the figure and the frame 6 decides
    pub six_decides : first_met (draw_conditions f w n) ≡ 0 → first_met (band_conditions f w n b) ≡ cond (band_out w b) 6 0
    unfolding first_met
    six_decides h =
        rows_decide (figure_in h) ∙ append_passed (frame_conditions w n) ((6, band_out w b) ∷ []) (frame_numbered w n) (frame_in h)

-- a figure, a window or a raster that is refused is refused in every band
pub band_refused : (f : Figure) (w : Window) (n k : ℕ) (b : Band) → first_met (draw_conditions f w n) ≡ suc k → first_met (band_conditions f w n b) ≡ suc k
band_refused f w n k b h =
    ap first_met (sym (append_assoc f.refusals (frame_conditions w n) ((6, band_out w b) ∷ [])))
    ∙ append_met k (draw_conditions f w n) ((6, band_out w b) ∷ []) h
