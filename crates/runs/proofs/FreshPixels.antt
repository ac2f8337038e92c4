-- The painter marks the pixels of the list's runs and counts the unmarked ones among them, or is refused and changes nothing.
use Prim.Native.Nat.{ℕ, zero, suc}
use mathlib.Core.Path.{◌≡◌, refl, sym}
use mathlib.Core.List.{List}
use native.Mathlib.Nat.{add-zero}
use lib.IntN.{ℤ}
use lib.ListN.{length}
use Rattle.std.specs.Prelude.{Option, None, Some}
use Rattle.coordinate.specs.declared.axis.Axis.{Axis}
use Rattle.refusal.specs.Refusal.{first_met, number_of, unless_refused}
use Rattle.refusal.proofs.Conditions.{append_none}
use Rattle.raster.specs.Window.{frame_conditions}
use Rattle.raster.specs.Fresh.{marked_count}
use Rattle.raster.specs.declared.window.Window.{Window}
use Rattle.raster.proofs.Frames.{frame, frame_numbered}
use Rattle.raster.proofs.Fresh.{marked-plus}
use Rattle.drawing.specs.Counts.{fresh_of, Adds}
use Rattle.drawing.specs.Drawing.{draw_counts, draw_raster}
use Rattle.runs.specs.Painting.{first_bad, runs_figure, paint_conditions, painted}
use Rattle.runs.specs.FreshPixels.{PaintAdds}

module _ (axis : Axis) (k : ℕ) (list : List ℤ) (w : Window) (s : List ℕ) where
  adds : (n : ℕ) → first_met (paint_conditions w (length s) list k) ≡ n → (bad : Option ℕ)
      → let a = painted n bad (draw_counts (runs_figure axis list k) w s) in
      Adds w s (unless_refused (number_of a) (draw_raster (runs_figure axis list k) w s) s) (fresh_of a)
  adds zero h None =
      marked-plus w s (frame w (length s) (append_none (frame_conditions w (length s)) _ (frame_numbered w (length s)) h).0).shape _
  adds zero h (Some place) = sym (add-zero (marked_count w s))
  adds (suc n) h bad = sym (add-zero (marked_count w s))

  pub paint_adds : PaintAdds axis k list w s
  paint_adds = adds (first_met (paint_conditions w (length s) list k)) refl (first_bad list k)
