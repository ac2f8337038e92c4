-- Drawing in the part of the raster where a band's rows lie, with the window of these rows, is drawing the band.
use Prim.Native.Nat.{ℕ, ◌+◌, ◌-◌, ◌*◌, ◌≤◌}
use mathlib.Core.Path.{◌≡◌, refl, ap, ap₂, ◌∙◌}
use mathlib.Core.List.{List, ◌++◌}
use native.Mathlib.Omega.{arith}
use lib.ListN.{length, take, drop}
use Rattle.raster.specs.Raster.{row_bytes}
use Rattle.raster.specs.Window.{raster_bytes}
use Rattle.raster.specs.Fresh.{fresh_count}
use Rattle.raster.specs.declared.window.Window.{Window}
use Rattle.raster.proofs.Band.{plus_band, fresh_band}
use Rattle.raster.proofs.Frames.{Frame, rows_length, starts_apart, end_within}
use Rattle.raster.proofs.Over.{Bytes}
use Rattle.drawing.specs.Counts.{counts}
use Rattle.drawing.specs.Figure.{Figure}
use Rattle.drawing.specs.Drawing.{draw_counts, draw_raster}
use Rattle.drawing.specs.Band.{window_of_band, band_of, band_counts, band_raster}
use Rattle.drawing.specs.declared.band.Band.{Band}
use Rattle.drawing.specs.declared.counts.Counts.{Counts}
use Rattle.drawing.proofs.Limits.{Within}

-- the window and the part's first byte and end, as code has them
module _ (w : Window) (s : List ℕ) (b : Band) (frm : Frame w (length s)) (in_w : Within w b)
    (v : Window) (from end : ℕ) (v-is : v ≡ window_of_band w b) (from_is : from ≡ b.first * row_bytes w.width)
    (end_is : end ≡ (b.first + b.rows) * row_bytes w.width) where
  size_is : end - from ≡ b.rows * row_bytes w.width
  size_is = starts_apart w (length s) b.first b.rows frm.shape in_w.last from end from_is end_is

  -- it lies in the raster
  pub part_ordered : from ≤ end
  part_ordered = omega (arith, from_is, end_is)

  pub part_in : end ≤ length s
  part_in = end_within w (length s) b.first b.rows frm.shape in_w.last from end from_is end_is

  abbrev lent : List ℕ
  lent = take (end - from) (drop from s)

  -- and is the raster of that window
  pub lent_length : length lent ≡ raster_bytes v
  lent_length = rw (v-is, size_is, from_is) (rows_length w (length s) b.first b.rows frm.shape in_w.last s refl)

  module _ (f : Figure) (bytes : Bytes s) where
    -- a figure drawn there has the band's counts
    part_fresh : fresh_count v lent f.has ≡ fresh_count w s (band_of w b f.has)
    part_fresh =
        rw (v-is, size_is, from_is)
        (fresh_band w s f.has b.first b.rows (w.height - (b.first + b.rows)) frm.shape bytes (omega (arith, in_w.last)))

    pub band_counted : (c : Counts) → c ≡ draw_counts f v lent → c ≡ band_counts f w s b
    band_counted c q = q ∙ ap₂ counts (ap f.count v-is) part_fresh

    -- and put back between what lies before and after it, it is the band's drawing
    pub band_drawn : (t : List ℕ) → t ≡ draw_raster f v lent → take from s ++ (t ++ drop (end - from) (drop from s)) ≡ band_raster f w b s
    band_drawn t q =
        rw (q, v-is, size_is, from_is)
        (plus_band w s f.has b.first b.rows (w.height - (b.first + b.rows)) frm.shape bytes (omega (arith, in_w.last)))
