-- Rows and searches small enough to be checked by hand, from document 01, and the order of their refusals. The proof, by computation,
-- is in proofs/Known.antt. Assumes nothing.
use Rattle.std.specs.Prelude.{◌≡◌, [], ◌∷◌, ℤ, pos, negsuc, Option, Some, None}
use Rattle.coordinate.specs.declared.pixel.Pixel.{Pixel}
use Rattle.refusal.specs.Refusal.{Answer, given, refused, first_met}
use Rattle.raster.specs.Window.{window_of}
use Rattle.raster.specs.declared.window.Window.{Window}
use Rattle.raster.specs.Known.{ten, two_rows}
use Rattle.raster_read.specs.Row.{row_conditions, row_view}
use Rattle.raster_read.specs.Search.{search_answer}

-- 10 columns and 2 rows with no size, with a last column above 16383
abbrev pub unsized : Window
unsized = window_of (pos 16384) (pos 0) 0 2

abbrev pub outside : Window
outside = window_of (pos 16380) (pos 0) 10 2

pub record KnownRows : Type 0 where
  pub first : row_view ten two_rows 0 ≡ 128 ∷ 64 ∷ []
  pub second : row_view ten two_rows 1 ≡ 36 ∷ 191 ∷ []
  -- 6: the row is not below the height
  pub third : row_view ten two_rows 2 ≡ []
  pub far : row_view ten two_rows 4294967295 ≡ []
  pub longer : row_view ten (128 ∷ 64 ∷ 36 ∷ 191 ∷ 0 ∷ []) 0 ≡ []
  -- each is refused by the first condition that is met
  pub two : first_met (row_conditions unsized 3 2) ≡ 2
  pub three : first_met (row_conditions outside 3 2) ≡ 3
  pub four : first_met (row_conditions ten 3 2) ≡ 4
  pub six : first_met (row_conditions ten 4 2) ≡ 6
  pub lawful : first_met (row_conditions ten 4 1) ≡ 0

-- a pixel that is found
abbrev pub found : ℤ → ℤ → Answer (Option Pixel)
found column row = given (Some (record { column = column; row = row }))

pub record KnownSearches : Type 0 where
  pub corner : search_answer ten two_rows ≡ found (pos 3) (negsuc 0)
  pub end_of_row : search_answer ten (0 ∷ 64 ∷ 36 ∷ 191 ∷ []) ≡ found (pos 12) (negsuc 0)
  -- the first row has marked padding alone
  pub past_padding : search_answer ten (0 ∷ 63 ∷ 4 ∷ 128 ∷ []) ≡ found (pos 8) (pos 0)
  pub last : search_answer ten (0 ∷ 63 ∷ 0 ∷ 127 ∷ []) ≡ found (pos 12) (pos 0)
  pub padding_alone : search_answer ten (0 ∷ 63 ∷ 0 ∷ 63 ∷ []) ≡ given None
  pub two : search_answer unsized (255 ∷ []) ≡ refused 2
  pub three : search_answer outside (255 ∷ []) ≡ refused 3
  pub four : search_answer ten (128 ∷ 64 ∷ 36 ∷ []) ≡ refused 4
