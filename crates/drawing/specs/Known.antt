-- Bands and drawings small enough to be checked by hand, from documents 01 and 02: which bands meet 6, which rows a list of bands has
-- and how often, in which order a drawing is refused, and what is drawn, counted and left. The proof, by computation, is in
-- proofs/Known.antt. Assumes nothing.
use Rattle.std.specs.Prelude.{◌+◌, ◌*◌, ◌≡◌, Bool, true, false, [], ◌∷◌, pos, negsuc}
use Rattle.counting.specs.Count.{each}
use Rattle.refusal.specs.Refusal.{given, refused}
use Rattle.raster.specs.declared.window.Window.{Window}
use Rattle.drawing.specs.Counts.{counts}
use Rattle.drawing.specs.Figure.{Figure, several}
use Rattle.drawing.specs.Drawing.{draw_answer, draw_after}
use Rattle.drawing.specs.Band.{band_from, band_out, band_answer, band_after}
use Rattle.drawing.specs.Calls.{in_bands, times_in, band_list, after_bands, band_calls, count_calls}

-- a window of 3 columns and 4 rows, rows 10 to 13 of the frame
abbrev pub small : Window
small = record { left = pos 5; top = pos 10; width = 3; height = 4 }

-- every pixel of the frame, refused by 1 or not
abbrev pub everything : Bool → Figure
everything bad = record { refusals = (1, bad) ∷ []; has = λ column row. true; count = λ w. w.width * w.height }

-- 6: no rows, or an end below the window, also where first row and number of rows are too large to add in 32 bits
pub record KnownRefused : Type 0 where
  pub no_rows : band_out small (band_from 0 0) ≡ true
  pub first_row : band_out small (band_from 0 1) ≡ false
  pub last_row : band_out small (band_from 3 1) ≡ false
  pub all_rows : band_out small (band_from 0 4) ≡ false
  pub row_too_many : band_out small (band_from 0 5) ≡ true
  pub below : band_out small (band_from 4 1) ≡ true
  pub far_first : band_out small (band_from 4294967295 2) ≡ true
  pub far_both : band_out small (band_from 2147483648 2147483648) ≡ true

-- of rows 9 to 14, which a list of bands has, and how often; refused bands have none
pub record KnownRows : Type 0 where
  pub apart : each 6 (λ r. in_bands small (band_from 0 2 ∷ band_from 3 1 ∷ []) (pos (9 + r)))
      ≡ false ∷ true ∷ true ∷ false ∷ true ∷ false ∷ []
  pub refused_ones : each 6 (λ r. in_bands small (band_from 0 5 ∷ band_from 4 1 ∷ band_from 1 0 ∷ []) (pos (9 + r)))
      ≡ false ∷ false ∷ false ∷ false ∷ false ∷ false ∷ []
  pub times : each 6 (λ r. times_in small (band_from 0 2 ∷ band_from 1 2 ∷ band_from 4 1 ∷ band_from 1 1 ∷ []) (pos (9 + r)))
      ≡ 0 ∷ 1 ∷ 3 ∷ 1 ∷ 0 ∷ 0 ∷ []
  -- two numbers to a band, and a last number alone is none
  pub listed : band_list (0 ∷ 2 ∷ 3 ∷ 1 ∷ 9 ∷ []) ≡ band_from 0 2 ∷ band_from 3 1 ∷ []

-- the first condition that is met decides, in the order of the numbers
pub record KnownOrder : Type 0 where
  pub one : band_answer (everything true) (record { left = negsuc 16384; top = pos 0; width = 0; height = 4 }) [] (band_from 0 0) ≡ refused 1
  pub two : band_answer (everything false) (record { left = negsuc 16384; top = pos 0; width = 0; height = 4 }) [] (band_from 0 0) ≡ refused 2
  pub three : band_answer (everything false) (record { left = negsuc 16384; top = pos 0; width = 3; height = 4 }) [] (band_from 0 0) ≡ refused 3
  pub four : band_answer (everything false) small [] (band_from 0 0) ≡ refused 4
  pub six : band_answer (everything false) small (0 ∷ 0 ∷ 0 ∷ 0 ∷ []) (band_from 0 0) ≡ refused 6
  -- a refusal leaves the raster
  pub kept : band_after (everything false) small (1 ∷ 2 ∷ 3 ∷ 4 ∷ []) (band_from 0 5) ≡ 1 ∷ 2 ∷ 3 ∷ 4 ∷ []
  pub whole_one : draw_answer (everything true) small [] ≡ refused 1
  pub whole_four : draw_answer (everything false) small [] ≡ refused 4
  pub whole_kept : draw_after (everything true) small (1 ∷ 2 ∷ 3 ∷ 4 ∷ []) ≡ 1 ∷ 2 ∷ 3 ∷ 4 ∷ []

-- A row is one byte, its pixels the bits worth 128, 64 and 32. Rows 1 and 2 begin as 101 and 000, with padding that is marked.
pub record KnownDrawn : Type 0 where
  pub whole : draw_answer (everything false) small (0 ∷ 160 ∷ 31 ∷ 255 ∷ []) ≡ given (counts 12 7)
  pub whole_left : draw_after (everything false) small (0 ∷ 160 ∷ 31 ∷ 255 ∷ []) ≡ 224 ∷ 224 ∷ 255 ∷ 255 ∷ []
  pub band : band_answer (everything false) small (0 ∷ 160 ∷ 31 ∷ 255 ∷ []) (band_from 1 2) ≡ given (counts 6 4)
  pub band_left : band_after (everything false) small (0 ∷ 160 ∷ 31 ∷ 255 ∷ []) (band_from 1 2) ≡ 0 ∷ 224 ∷ 255 ∷ 255 ∷ []
  -- two bands refused, row 1 drawn twice
  pub calls : band_calls (everything false) small (0 ∷ 0 ∷ 0 ∷ 0 ∷ [])
      (band_from 0 2 ∷ band_from 4 1 ∷ band_from 1 2 ∷ band_from 0 0 ∷ [])
      ≡ record { refused = 2; fresh = 9 }
  pub calls_count : count_calls (everything false) small (0 ∷ 0 ∷ 0 ∷ 0 ∷ [])
      (band_from 0 2 ∷ band_from 4 1 ∷ band_from 1 2 ∷ band_from 0 0 ∷ [])
      ≡ 12
  pub calls_left : after_bands (everything false) small (0 ∷ 0 ∷ 0 ∷ 0 ∷ [])
      (band_from 0 2 ∷ band_from 4 1 ∷ band_from 1 2 ∷ band_from 0 0 ∷ [])
      ≡ 224 ∷ 224 ∷ 224 ∷ 0 ∷ []
  -- drawn twice as two figures: each pixel is counted twice, and fresh once
  pub twice : draw_answer (several 2 (λ k. everything false)) small (0 ∷ 0 ∷ 0 ∷ 0 ∷ []) ≡ given (counts 24 12)
