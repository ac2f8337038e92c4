-- A drawing marks some of the figure's pixels or none, so its raster is alike to its start but there; so is that of any band calls.
use Prim.Native.Nat.{ℕ}
use mathlib.Core.Path.{◌≡◌, ap, ◌∙◌}
use mathlib.Core.Bool.{Bool, false, ◌&&◌, and-false}
use mathlib.Core.List.{List, [], ◌∷◌}
use lib.IntN.{ℤ}
use lib.ListN.{length}
use Rattle.refusal.specs.Refusal.{first_met}
use Rattle.raster.specs.Alike.{AlikeBut}
use Rattle.raster.specs.Band.{in_rows}
use Rattle.raster.specs.declared.window.Window.{Window}
use Rattle.raster.proofs.Alike.{alike_self, alike_then, drawing_alike}
use Rattle.drawing.specs.Figure.{Figure, Drawable}
use Rattle.drawing.specs.Drawing.{draw_conditions, draw_after}
use Rattle.drawing.specs.Band.{band_of, band_conditions, band_after}
use Rattle.drawing.specs.Calls.{after_bands}
use Rattle.drawing.specs.declared.band.Band.{Band}
use Rattle.drawing.proofs.Limits.{rows_frame}
use Rattle.drawing.proofs.Conditions.{draw_frame, rows_passed}

-- a figure whose pixels have P
module _ (f : Figure) (d : Drawable f) (w : Window) (P : ℤ → ℤ → Bool) (within : (x y : ℤ) → P x y ≡ false → f.has x y ≡ false) where
  pub whole_alike : (s : List ℕ) → AlikeBut w P s (draw_after f w s)
  whole_alike s = drawing_alike w P s (first_met (draw_conditions f w (length s))) (λ h. (draw_frame f d w (length s) h).shape) f.has within

  pub band_alike : (s : List ℕ) (b : Band) → AlikeBut w P s (band_after f w s b)
  band_alike s b =
      drawing_alike w P s (first_met (band_conditions f w (length s) b))
      (λ h. (rows_frame w (length s) b (rows_passed f d w (length s) b h)).shape)
      (band_of w b f.has)
      (λ x y q. ap (λ (t : Bool). in_rows w b.first b.rows y && t) (within x y q) ∙ and-false (in_rows w b.first b.rows y))

  pub bands_alike : (s : List ℕ) (bands : List Band) → AlikeBut w P s (after_bands f w s bands)
  unfolding after_bands
  bands_alike s [] = alike_self w P s
  bands_alike s (b ∷ bs) =
      let t = band_after f w s b in
      alike_then w P s t (after_bands f w t bs) (band_alike s b) (bands_alike t bs)
