-- A line chosen by hand, drawn both ways, from documents 01 and 02, and in which order drawing both ways is refused. The proof, by
-- computation, is in proofs/Known.antt. Assumes nothing.
use Rattle.std.specs.Prelude.{ℕ, ◌≡◌, List, [], ◌∷◌, ℤ, pos, negsuc}
use Rattle.coordinate.specs.declared.axis.Axis.TheVariants.{X}
use Rattle.refusal.specs.Refusal.{Answer, given, refused, unless_refused}
use Rattle.raster.specs.declared.window.Window.{Window}
use Rattle.drawing.specs.Counts.{counts}
use Rattle.drawing.specs.Drawing.{draw_raster}
use Rattle.drawing.specs.Calls.{after_bands, band_list}
use Rattle.drawing.specs.declared.counts.Counts.{Counts}
use Rattle.drawing.specs.declared.calls.BandCalls.{BandCalls}
use Rattle.runs.specs.Painting.{paint_answer, paint_after}
use Rattle.line.specs.Figure.{line_figure}
use Rattle.line.specs.Shorthand.{from}
use Rattle.line.specs.declared.ends.Ends.{Ends}
use Rattle.line_list.specs.Known.{sized}
use Rattle.line_list.specs.KnownLists.{nines}
use Rattle.line_list.specs.Listing.{line_list, listing}
use Rattle.line_list.specs.declared.list.Listing.{Listing}
use Rattle.both_ways.specs.BothWays.{both_met, both_answer}
use Rattle.both_ways.specs.declared.draw.Both.{Both}

-- line D, whose pixels are (0,0), (1,1) and (2,1)
abbrev pub line_d : Ends
line_d = from (pos 0) (pos 0) (pos 2) (pos 1)

abbrev pub both : Listing → Counts → BandCalls → Both
both l p b = record { listing = l; painted = p; banded = b }

abbrev pub calls : ℕ → ℕ → BandCalls
calls refused fresh = record { refused = refused; fresh = fresh }

-- listed and painted on s and drawn by bands on t: this answer, and what is left in the list and in both rasters
abbrev pub Draws : Ends → Window → List ℤ → List ℕ → List ℕ → List ℕ → Answer Both → List ℤ → List ℕ → List ℕ → Type 0
Draws e w list bands s t a listed painted banded =
    (both_answer e w list bands s t ≡ a)
    × ((unless_refused (both_met e w list s t) (line_list e list) list ≡ listed)
    × ((unless_refused (both_met e w list s t) (draw_raster (line_figure e) w s) s ≡ painted)
    × (unless_refused (both_met e w list s t) (after_bands (line_figure e) w t (band_list bands)) t ≡ banded)))

-- refused, with everything left as it was
abbrev pub Refuses : Ends → Window → List ℤ → List ℕ → List ℕ → ℕ → Type 0
Refuses e w list s t k = Draws e w list (0 ∷ 1 ∷ []) s t (refused k) list s t

-- Line D in a window of 3 columns and 2 rows. A row is one byte, its pixels the bits worth 128, 64 and 32. At the start row 0 is 101,
-- and in row 1 three bits of the padding are marked.
pub record KnownBoth : Type 0 where
  -- row 0, a band below the window, and row 1; the last number is no band
  pub every_row : Draws line_d (sized 3 2) (nines 7) (0 ∷ 1 ∷ 2 ∷ 1 ∷ 1 ∷ 1 ∷ 9 ∷ []) (160 ∷ 7 ∷ []) (160 ∷ 7 ∷ [])
      (given (both (listing X 2) (counts 3 2) (calls 1 2)))
      (pos 0 ∷ pos 0 ∷ pos 1 ∷ pos 1 ∷ pos 1 ∷ pos 2 ∷ pos 9 ∷ []) (160 ∷ 103 ∷ []) (160 ∷ 103 ∷ [])
  -- that is the painter's answer, and its raster, given that list
  pub painter_answers : paint_answer X 2 (pos 0 ∷ pos 0 ∷ pos 1 ∷ pos 1 ∷ pos 1 ∷ pos 2 ∷ pos 9 ∷ []) (sized 3 2) (160 ∷ 7 ∷ []) ≡ given (counts 3 2)
  pub painter_leaves : paint_after X 2 (pos 0 ∷ pos 0 ∷ pos 1 ∷ pos 1 ∷ pos 1 ∷ pos 2 ∷ pos 9 ∷ []) (sized 3 2) (160 ∷ 7 ∷ []) ≡ 160 ∷ 103 ∷ []
  -- row 1 alone, twice; the other raster is clear at the start
  pub one_row : Draws line_d (sized 3 2) (nines 6) (1 ∷ 1 ∷ 1 ∷ 1 ∷ []) (160 ∷ 7 ∷ []) (0 ∷ 0 ∷ [])
      (given (both (listing X 2) (counts 3 2) (calls 0 2)))
      (pos 0 ∷ pos 0 ∷ pos 1 ∷ pos 1 ∷ pos 1 ∷ pos 2 ∷ []) (160 ∷ 103 ∷ []) (0 ∷ 96 ∷ [])

-- the first condition that is met decides, in the order of the numbers: in each of these all with a higher number are met too
pub record KnownOrder : Type 0 where
  pub one : Refuses (from (pos 16384) (pos 0) (pos 16383) (pos 0)) (record { left = negsuc 16384; top = pos 0; width = 0; height = 2 }) [] (9 ∷ []) (9 ∷ []) 1
  pub two : Refuses line_d (record { left = negsuc 16384; top = pos 0; width = 0; height = 2 }) [] (9 ∷ []) (9 ∷ []) 2
  pub three : Refuses line_d (record { left = negsuc 16384; top = pos 0; width = 3; height = 2 }) [] (9 ∷ []) (9 ∷ []) 3
  -- the first raster, then the second
  pub four : Refuses line_d (sized 3 2) [] (9 ∷ []) (9 ∷ 9 ∷ []) 4
  pub four_second : Refuses line_d (sized 3 2) [] (9 ∷ 9 ∷ []) (9 ∷ []) 4
  pub five : Refuses line_d (sized 3 2) (nines 5) (9 ∷ 9 ∷ []) (9 ∷ 9 ∷ []) 5
