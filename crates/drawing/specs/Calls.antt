-- Document 01, 'The equal-raster rule': a list of calls of a band drawer, all with the same figure and window. Assumes nothing.
use Rattle.std.specs.Prelude.{ℕ, ◌+◌, ◌*◌, ◌/◌, ◌<◌, ◌≡◌, Bool, true, false, not, ◌&&◌, ◌||◌, List, [], ◌∷◌, ℤ, pos, ◌+ℤ◌, length, get_or}
use Rattle.counting.specs.Count.{one, each}
use Rattle.refusal.specs.Refusal.{is_refused}
use Rattle.raster.specs.Band.{in_rows}
use Rattle.raster.specs.declared.window.Window.{Window}
use Rattle.drawing.specs.Counts.{counts_of, fresh_of}
use Rattle.drawing.specs.Figure.{Figure}
use Rattle.drawing.specs.Band.{band_from, band_out, band_answer, band_after}
use Rattle.drawing.specs.declared.band.Band.{Band}
use Rattle.drawing.specs.declared.calls.BandCalls.{BandCalls}

-- the raster after the calls: the first gets the start, each later one the raster as the call before left it
unfoldable pub after_bands : Figure → Window → List ℕ → List Band → List ℕ
after_bands f w s [] = s
after_bands f w s (b ∷ bs) = after_bands f w (band_after f w s b) bs

-- how many of the calls are refused
unfoldable pub refused_calls : Figure → Window → List ℕ → List Band → ℕ
refused_calls f w s [] = 0
refused_calls f w s (b ∷ bs) = one (is_refused (band_answer f w s b)) + refused_calls f w (band_after f w s b) bs

-- the fresh pixels of all calls, added up; a refused call has none
unfoldable pub fresh_calls : Figure → Window → List ℕ → List Band → ℕ
fresh_calls f w s [] = 0
fresh_calls f w s (b ∷ bs) = fresh_of (band_answer f w s b) + fresh_calls f w (band_after f w s b) bs

-- the counts of all calls, added up
unfoldable pub count_calls : Figure → Window → List ℕ → List Band → ℕ
count_calls f w s [] = 0
count_calls f w s (b ∷ bs) = (counts_of (band_answer f w s b)).count + count_calls f w (band_after f w s b) bs

-- the row is one of the band's, which doesn't meet 6
abbrev pub in_band : Window → Band → ℤ → Bool
in_band w b row = not (band_out w b) && in_rows w b.first b.rows row

-- the row is one of the bands' that don't meet 6
unfoldable pub in_bands : Window → List Band → ℤ → Bool
in_bands w [] row = false
in_bands w (b ∷ bs) row = in_band w b row || in_bands w bs row

-- of the pixels that have P, those in the rows of these bands
abbrev pub bands_of : Window → List Band → (ℤ → ℤ → Bool) → ℤ → ℤ → Bool
bands_of w bands P column row = in_bands w bands row && P column row

-- these bands take in every row of the window
abbrev pub EveryRow : Window → List Band → Type 0
EveryRow w bands = (r : ℕ) → r < w.height → in_bands w bands (w.top +ℤ pos r) ≡ true

-- how many of the bands that don't meet 6 have the row
unfoldable pub times_in : Window → List Band → ℤ → ℕ
times_in w [] row = 0
times_in w (b ∷ bs) row = one (in_band w b row) + times_in w bs row

-- these bands take in every row of the window exactly once
abbrev pub EachRowOnce : Window → List Band → Type 0
EachRowOnce w bands = (r : ℕ) → r < w.height → times_in w bands (w.top +ℤ pos r) ≡ 1

-- ---- bands as a list of numbers, two to a band

-- the band at place k
abbrev pub band_at : List ℕ → ℕ → Band
band_at list k = band_from (get_or list (2 * k) 0) (get_or list (2 * k + 1) 0)

-- all bands; a last number alone is none
unfoldable pub band_list : List ℕ → List Band
band_list list = each (length list / 2) (band_at list)

-- what a list of calls answers: how many are refused, and the fresh pixels of all of them
abbrev pub band_calls : Figure → Window → List ℕ → List Band → BandCalls
band_calls f w s bands = record { refused = refused_calls f w s bands; fresh = fresh_calls f w s bands }
