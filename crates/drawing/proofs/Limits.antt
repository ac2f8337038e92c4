-- A band that meets no condition lies in the window; the window of its rows, with their part of the raster, is a frame within the
-- limits.
use Prim.Native.Nat.{ℕ, ◌+◌, ◌*◌, ◌≤◌, ◌<◌}
use mathlib.Core.Path.{◌≡◌, refl, ap₂}
use mathlib.Core.Bool.{false}
use mathlib.Core.List.{[], ◌∷◌}
use native.Mathlib.Omega.{arith}
use lib.IntN.{ℤ, ◌+ℤ◌}
use lib.Dec.{ltb, eqb}
use mir.Syntax.{w32}
use mir.Val.{to_z, of_z, SFits}
use mir.ValLaws.{to_z-of_z}
use borrow.Author.Tests.{ltb-false, eqb-false}
use Rattle.counting.proofs.Boolean.{or_neither}
use Rattle.coordinate.specs.Coordinate.{biased}
use Rattle.coordinate.proofs.Bias.{shifted_in, biased_shifted, in_range_fits}
use Rattle.refusal.specs.Refusal.{first_met}
use Rattle.refusal.proofs.Conditions.{none_met, append_none}
use Rattle.raster.specs.Raster.{row_bytes}
use Rattle.raster.specs.Window.{window_conditions, frame_conditions}
use Rattle.raster.specs.declared.window.Window.{Window}
use Rattle.raster.proofs.Frames.{Frame, frame, frame_numbered, window_in}
use Rattle.raster.proofs.Placing.{sum_fits, sum_kept}
use Rattle.drawing.specs.Band.{window_of_band, band_out, rows_conditions}
use Rattle.drawing.specs.declared.band.Band.{Band}

-- the rows of a band that doesn't meet 6
pub record Within (w : Window) (b : Band) : Type 0 where
  pub some : 1 ≤ b.rows
  pub last : b.first + b.rows ≤ w.height

pub band_within : (w : Window) (b : Band) → band_out w b ≡ false → Within w b
unfolding band_out
band_within w b e =
    let p = or_neither (eqb b.rows 0) (ltb w.height (b.first + b.rows)) e in
    record { some = omega (arith, eqb-false b.rows 0 p.0); last = ltb-false w.height (b.first + b.rows) p.1 }

-- ---- the window of the band's rows

module _ (w : Window) (n : ℕ) (b : Band) (frm : Frame w n) (in_w : Within w b) where
  top_fits : biased w.top + b.first < 32768
  top_fits = omega (arith, frm.place.bottom, in_w.some, in_w.last)

  pub band_frame : Frame (window_of_band w b) (b.rows * row_bytes w.width)
  band_frame =
      record {
        size = record {
          width_min = frm.size.width_min;
          width_max = frm.size.width_max;
          height_min = in_w.some;
          height_max = omega (arith, frm.size.height_max, in_w.last);
        };
        place = record {
          left_in = frm.place.left_in;
          top_in = shifted_in w.top b.first frm.place.top_in top_fits;
          right = frm.place.right;
          bottom = omega (arith, biased_shifted w.top b.first frm.place.top_in top_fits, frm.place.bottom, in_w.last);
        };
        shape = record { wide = frm.shape.wide; length_is = refl };
      }

  -- the first row is below the height
  pub first_small : b.first < w.height
  first_small = omega (arith, in_w.some, in_w.last)

  pub top_sum : SFits w32 (to_z w32 (of_z w32 w.top) +ℤ to_z w32 b.first)
  top_sum = sum_fits w.top w.height b.first frm.place.top_in frm.place.bottom first_small

  -- the window as code makes it of signed numbers
  pub window_made : ◌≡◌ {A = Window}
      (record { left = to_z w32 (of_z w32 w.left); top = to_z w32 (of_z w32 (to_z w32 (of_z w32 w.top) +ℤ to_z w32 b.first)); width = w.width; height = b.rows })
      (window_of_band w b)
  window_made =
      ap₂ (λ (l t : ℤ). record { left = l; top = t; width = w.width; height = b.rows })
      (to_z-of_z w32 w.left (record { sfits = in_range_fits w.left frm.place.left_in }))
      (sum_kept w.top w.height b.first frm.place.top_in frm.place.bottom first_small)

-- ---- what is known where no condition is met

module _ (w : Window) (n : ℕ) (b : Band) (h : first_met (rows_conditions w n b) ≡ 0) where
  parts : (first_met (frame_conditions w n) ≡ 0) × (first_met ((6, band_out w b) ∷ []) ≡ 0)
  parts = append_none (frame_conditions w n) ((6, band_out w b) ∷ []) (frame_numbered w n) h

  pub rows_window : first_met (window_conditions w) ≡ 0
  rows_window = window_in w n parts.0

  pub rows_in : band_out w b ≡ false
  rows_in = (none_met 5 (band_out w b) [] parts.1).0

  pub rows_frame : Frame w n
  rows_frame = frame w n parts.0
