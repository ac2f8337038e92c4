-- Document 01, 'Operations' and 'Turned away': drawing a figure in a band of the window's rows. A band is its first row, counted
-- from 0 at the window's top, and its number of rows. Assumes nothing.
use Rattle.std.specs.Prelude.{ℕ, ◌+◌, Bool, ◌||◌, List, [], ◌∷◌, ◌++◌, ℤ, length, ltb, eqb}
use Rattle.refusal.specs.Refusal.{Answer, answer, unless_refused, first_met}
use Rattle.raster.specs.Raster.{plus}
use Rattle.raster.specs.Window.{frame_conditions}
use Rattle.raster.specs.Band.{band_window, rows_of}
use Rattle.raster.specs.Fresh.{fresh_count}
use Rattle.raster.specs.declared.window.Window.{Window}
use Rattle.drawing.specs.Counts.{counts}
use Rattle.drawing.specs.Figure.{Figure}
use Rattle.drawing.specs.declared.band.Band.{Band}
use Rattle.drawing.specs.declared.counts.Counts.{Counts}

-- the band of so many rows from a first one on
abbrev pub band_from : ℕ → ℕ → Band
band_from first rows = record { first = first; rows = rows }

-- the window of the band's rows
abbrev pub window_of_band : Window → Band → Window
window_of_band w b = band_window w b.first b.rows

-- of the pixels that have P, those in the band's rows: from `first` up to, but without, first + rows
abbrev pub band_of : Window → Band → (ℤ → ℤ → Bool) → ℤ → ℤ → Bool
band_of w b P = rows_of w b.first b.rows P

-- 6: a band has no rows or ends below the window
unfoldable pub band_out : Window → Band → Bool
band_out w b = eqb b.rows 0 || ltb w.height (b.first + b.rows)

-- what refuses a window, a raster of n bytes and a band: 2, 3, 4, 6
abbrev pub rows_conditions : Window → ℕ → Band → List (ℕ × Bool)
rows_conditions w n b = frame_conditions w n ++ ((6, band_out w b) ∷ [])

-- with a figure: its own conditions first
abbrev pub band_conditions : Figure → Window → ℕ → Band → List (ℕ × Bool)
band_conditions f w n b = f.refusals ++ rows_conditions w n b

-- how many of its pixels lie in the band, which is the window of its rows, and how many of them are unmarked at the start
abbrev pub band_counts : Figure → Window → List ℕ → Band → Counts
band_counts f w s b = counts (f.count (window_of_band w b)) (fresh_count w s (band_of w b f.has))

-- the raster after the band is drawn: the start plus the figure's pixels in its rows
abbrev pub band_raster : Figure → Window → Band → List ℕ → List ℕ
band_raster f w b s = plus w s (band_of w b f.has)

-- what a band drawer answers to a figure, a window, a raster and a band, and what it leaves in the raster
abbrev pub band_answer : Figure → Window → List ℕ → Band → Answer Counts
band_answer f w s b = answer (first_met (band_conditions f w (length s) b)) (band_counts f w s b)

abbrev pub band_after : Figure → Window → List ℕ → Band → List ℕ
band_after f w s b = unless_refused (first_met (band_conditions f w (length s) b)) (band_raster f w b s) s
