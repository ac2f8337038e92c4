-- A small file drawn by hand, from documents 01 and 02: in which order drawing a frame is refused, and what is drawn, counted and left,
-- as statements about the definitions. The proof, by computation, is in proofs/Known.antt. Assumes nothing.
use Rattle.std.specs.Prelude.{ℕ, ◌≡◌, List, [], ◌∷◌, pos, negsuc, None, Some}
use Rattle.refusal.specs.Refusal.{given, refused}
use Rattle.raster.specs.declared.window.Window.{Window}
use Rattle.drawing.specs.Band.{band_from}
use Rattle.drawing.specs.Counts.{counts}
use Rattle.drawing.specs.declared.band.Band.{Band}
use Rattle.reel_draw.specs.Drawing.{frame_answer, frame_after}

-- a window of 3 columns, 5 to 7, and 4 rows, 10 to 13; a row is one byte, its pixels the bits worth 128, 64 and 32
abbrev pub small : Window
small = record { left = pos 5; top = pos 10; width = 3; height = 4 }

-- the same with its first column below the lowest coordinate, and with no columns
abbrev pub out_of_place : Window
out_of_place = record { left = negsuc 16384; top = pos 10; width = 3; height = 4 }

abbrev pub no_columns : Window
no_columns = record { left = pos 5; top = pos 10; width = 0; height = 4 }

abbrev pub no_columns_out_of_place : Window
no_columns_out_of_place = record { left = negsuc 16384; top = pos 10; width = 0; height = 4 }

-- Three frames. The first has the lines (5,11) to (7,11) and (6,9) to (6,12), which cross in (6,11); the second has none; the third has
-- (7,13) to (4,10). The second line begins above the window, and the third ends left of it.
abbrev pub small_file : List ℕ
small_file =
    5 ∷ 0 ∷ 11 ∷ 0 ∷ 7 ∷ 0 ∷ 11 ∷ 0 ∷ 6 ∷ 0 ∷ 9 ∷ 0 ∷ 6 ∷ 0 ∷ 12 ∷ 0 ∷ 7 ∷ 0 ∷ 13 ∷ 0 ∷ 4 ∷ 0 ∷ 10 ∷ 0
    ∷ 2 ∷ 0 ∷ 0 ∷ 0 ∷ 2 ∷ 0 ∷ 0 ∷ 0 ∷ 3 ∷ 0 ∷ 0 ∷ 0
    ∷ 24 ∷ 0 ∷ 0 ∷ 0 ∷ 3 ∷ 0 ∷ 0 ∷ 0 ∷ 77 ∷ 82 ∷ 75 ∷ 83 ∷ []

-- one record and one frame, by the high byte of the first column, which is out of range from 64 on, the table's number, which is to be
-- 1, and the last letter, which is to be 83
abbrev pub one_record : ℕ → ℕ → ℕ → List ℕ
one_record high number letter =
    0 ∷ high ∷ 0 ∷ 0 ∷ 0 ∷ 0 ∷ 0 ∷ 0
    ∷ number ∷ 0 ∷ 0 ∷ 0
    ∷ 8 ∷ 0 ∷ 0 ∷ 0 ∷ 1 ∷ 0 ∷ 0 ∷ 0 ∷ 77 ∷ 82 ∷ 75 ∷ letter ∷ []

-- drawing frame 0 is refused by this number, and the raster stays as it was
pub record RefusedBy (n : ℕ) (file : List ℕ) (w : Window) (s : List ℕ) (b : Band) : Type 0 where
  pub answers : frame_answer file 0 w s b ≡ refused n
  pub leaves : frame_after file 0 w s b ≡ s

pub record KnownRefused : Type 0 where
  -- each condition with all later ones
  pub two : RefusedBy 2 (one_record 64 2 84) no_columns_out_of_place (9 ∷ []) (band_from 0 0)
  pub three : RefusedBy 3 (one_record 64 2 84) out_of_place (9 ∷ []) (band_from 0 0)
  pub four : RefusedBy 4 (one_record 64 2 84) small (9 ∷ []) (band_from 0 0)
  pub six : RefusedBy 6 (one_record 64 2 84) small (1 ∷ 2 ∷ 3 ∷ 4 ∷ []) (band_from 0 0)
  pub ten : RefusedBy 10 (one_record 64 2 84) small (1 ∷ 2 ∷ 3 ∷ 4 ∷ []) (band_from 0 4)
  pub eleven : RefusedBy 11 (one_record 64 2 83) small (1 ∷ 2 ∷ 3 ∷ 4 ∷ []) (band_from 0 4)
  pub twelve : RefusedBy 12 (one_record 64 1 83) small (1 ∷ 2 ∷ 3 ∷ 4 ∷ []) (band_from 0 4)
  -- each alone
  pub two_alone : RefusedBy 2 small_file no_columns [] (band_from 0 4)
  pub three_alone : RefusedBy 3 small_file out_of_place (1 ∷ 2 ∷ 3 ∷ 4 ∷ []) (band_from 0 4)
  pub four_alone : RefusedBy 4 small_file small (1 ∷ 2 ∷ 3 ∷ 4 ∷ 5 ∷ []) (band_from 0 4)
  pub six_alone : RefusedBy 6 small_file small (1 ∷ 2 ∷ 3 ∷ 4 ∷ []) (band_from 1 4)
  pub ten_alone : RefusedBy 10 (one_record 0 1 84) small (1 ∷ 2 ∷ 3 ∷ 4 ∷ []) (band_from 0 4)
  pub eleven_alone : RefusedBy 11 (one_record 0 2 83) small (1 ∷ 2 ∷ 3 ∷ 4 ∷ []) (band_from 0 4)
  -- also where the file doesn't have the frame
  pub no_frame : frame_answer (one_record 64 1 83) 1 small (1 ∷ 2 ∷ 3 ∷ 4 ∷ []) (band_from 0 4) ≡ refused 12

pub record KnownDrawn : Type 0 where
  -- frame 0 in all rows of a clear raster: 3 pixels of each line, the crossing counted twice and fresh once
  pub whole : frame_answer small_file 0 small (0 ∷ 0 ∷ 0 ∷ 0 ∷ []) (band_from 0 4) ≡ given (Some (counts 6 5))
  pub whole_left : frame_after small_file 0 small (0 ∷ 0 ∷ 0 ∷ 0 ∷ []) (band_from 0 4) ≡ 64 ∷ 224 ∷ 64 ∷ 0 ∷ []
  -- once more: none is fresh
  pub again : frame_answer small_file 0 small (64 ∷ 224 ∷ 64 ∷ 0 ∷ []) (band_from 0 4) ≡ given (Some (counts 6 0))
  pub again_left : frame_after small_file 0 small (64 ∷ 224 ∷ 64 ∷ 0 ∷ []) (band_from 0 4) ≡ 64 ∷ 224 ∷ 64 ∷ 0 ∷ []
  -- where (6,10), row 13 and padding are marked
  pub marked : frame_answer small_file 0 small (65 ∷ 0 ∷ 31 ∷ 255 ∷ []) (band_from 0 4) ≡ given (Some (counts 6 4))
  pub marked_left : frame_after small_file 0 small (65 ∷ 0 ∷ 31 ∷ 255 ∷ []) (band_from 0 4) ≡ 65 ∷ 224 ∷ 95 ∷ 255 ∷ []
  -- in rows 11 and 12 alone: 3 pixels and 2
  pub band : frame_answer small_file 0 small (0 ∷ 0 ∷ 0 ∷ 0 ∷ []) (band_from 1 2) ≡ given (Some (counts 5 4))
  pub band_left : frame_after small_file 0 small (0 ∷ 0 ∷ 0 ∷ 0 ∷ []) (band_from 1 2) ≡ 0 ∷ 224 ∷ 64 ∷ 0 ∷ []
  -- in the last row, where there is none
  pub last_row : frame_answer small_file 0 small (0 ∷ 0 ∷ 0 ∷ 0 ∷ []) (band_from 3 1) ≡ given (Some (counts 0 0))
  pub last_row_left : frame_after small_file 0 small (0 ∷ 0 ∷ 0 ∷ 0 ∷ []) (band_from 3 1) ≡ 0 ∷ 0 ∷ 0 ∷ 0 ∷ []
  -- frame 1, which has no line
  pub empty : frame_answer small_file 1 small (9 ∷ 9 ∷ 9 ∷ 9 ∷ []) (band_from 0 4) ≡ given (Some (counts 0 0))
  pub empty_left : frame_after small_file 1 small (9 ∷ 9 ∷ 9 ∷ 9 ∷ []) (band_from 0 4) ≡ 9 ∷ 9 ∷ 9 ∷ 9 ∷ []
  -- frame 2: 3 pixels in the window
  pub third : frame_answer small_file 2 small (0 ∷ 0 ∷ 0 ∷ 0 ∷ []) (band_from 0 4) ≡ given (Some (counts 3 3))
  pub third_left : frame_after small_file 2 small (0 ∷ 0 ∷ 0 ∷ 0 ∷ []) (band_from 0 4) ≡ 0 ∷ 128 ∷ 64 ∷ 32 ∷ []
  -- frames that the file doesn't have
  pub fourth : frame_answer small_file 3 small (9 ∷ 9 ∷ 9 ∷ 9 ∷ []) (band_from 0 4) ≡ given None
  pub fourth_left : frame_after small_file 3 small (9 ∷ 9 ∷ 9 ∷ 9 ∷ []) (band_from 0 4) ≡ 9 ∷ 9 ∷ 9 ∷ 9 ∷ []
  pub far : frame_answer small_file 4294967295 small (9 ∷ 9 ∷ 9 ∷ 9 ∷ []) (band_from 0 4) ≡ given None
