-- Windows and rasters small enough to be checked by hand, from documents 01 and 02: the borders of refusals 2, 3 and 4 and their order,
-- which bit is which pixel's, the start plus some pixels, and how many of them are fresh. The proof, by computation, is in
-- proofs/Known.antt. Assumes nothing.
use Rattle.std.specs.Prelude.{ℕ, ◌+◌, ◌≡◌, Bool, true, false, List, [], ◌∷◌, ℤ, pos, negsuc, ◌-ℤ◌}
use Rattle.counting.specs.Count.{each}
use Rattle.refusal.specs.Refusal.{given, answer, first_met}
use Rattle.raster.specs.Raster.{plus, marked, row_bytes, in_window}
use Rattle.raster.specs.Window.{window_conditions, frame_conditions, raster_bytes, window_of}
use Rattle.raster.specs.Bits.{span}
use Rattle.raster.specs.Fresh.{marked_count, fresh_count}
use Rattle.raster.specs.Band.{in_rows}
use Rattle.raster.specs.declared.window.Window.{Window}

-- the number that refuses a window, 0 where none does
abbrev pub window_number : ℤ → ℤ → ℕ → ℕ → ℕ
window_number left top width height = first_met (window_conditions (window_of left top width height))

-- 2: width or height is not from 1 to 8192
pub record KnownSizes : Type 0 where
  pub smallest : window_number (pos 0) (pos 0) 1 1 ≡ 0
  pub widest : window_number (pos 0) (pos 0) 8192 1 ≡ 0
  pub highest : window_number (pos 0) (pos 0) 1 8192 ≡ 0
  pub no_width : window_number (pos 0) (pos 0) 0 1 ≡ 2
  pub no_height : window_number (pos 0) (pos 0) 1 0 ≡ 2
  pub too_wide : window_number (pos 0) (pos 0) 8193 1 ≡ 2
  pub too_high : window_number (pos 0) (pos 0) 1 8193 ≡ 2
  pub far_too_wide : window_number (pos 0) (pos 0) 4294967295 1 ≡ 2

-- 3: left or top is not from −16384 to 16383, or the last column or row is above 16383
pub record KnownPlaces : Type 0 where
  pub left_first : window_number (negsuc 16383) (pos 0) 1 1 ≡ 0
  pub left_below : window_number (negsuc 16384) (pos 0) 1 1 ≡ 3
  pub top_first : window_number (pos 0) (negsuc 16383) 1 1 ≡ 0
  pub top_below : window_number (pos 0) (negsuc 16384) 1 1 ≡ 3
  pub left_last : window_number (pos 16383) (pos 0) 1 1 ≡ 0
  pub left_above : window_number (pos 16384) (pos 0) 1 1 ≡ 3
  pub top_last : window_number (pos 0) (pos 16383) 1 1 ≡ 0
  pub top_above : window_number (pos 0) (pos 16384) 1 1 ≡ 3
  -- columns 8192 to 16383, and one further on; rows likewise
  pub last_column : window_number (pos 8192) (pos 0) 8192 1 ≡ 0
  pub column_above : window_number (pos 8193) (pos 0) 8192 1 ≡ 3
  pub last_row : window_number (pos 0) (pos 8192) 1 8192 ≡ 0
  pub row_above : window_number (pos 0) (pos 8193) 1 8192 ≡ 3
  -- 2 and 3 are both met
  pub size_first : window_number (negsuc 16384) (pos 0) 1 0 ≡ 2
  -- what the maker answers is the window with its numbers in their places
  pub made : answer (window_number (pos 3) (negsuc 4) 5 7) (window_of (pos 3) (negsuc 4) 5 7)
      ≡ given (record { left = pos 3; top = negsuc 4; width = 5; height = 7 })

-- 10 columns from column 3 on and 2 rows from row −1 on; a row takes 2 bytes, the last 6 bits of which are padding
abbrev pub ten : Window
ten = record { left = pos 3; top = negsuc 0; width = 10; height = 2 }

-- 4: the length is not height times width / 8, rounded up
pub record KnownLengths : Type 0 where
  pub row : each 18 row_bytes ≡ 0 ∷ 1 ∷ 1 ∷ 1 ∷ 1 ∷ 1 ∷ 1 ∷ 1 ∷ 1 ∷ 2 ∷ 2 ∷ 2 ∷ 2 ∷ 2 ∷ 2 ∷ 2 ∷ 2 ∷ 3 ∷ []
  pub whole : first_met (frame_conditions ten 4) ≡ 0
  pub shorter : first_met (frame_conditions ten 3) ≡ 4
  pub longer : first_met (frame_conditions ten 5) ≡ 4
  pub empty : first_met (frame_conditions ten 0) ≡ 4
  pub largest : raster_bytes (window_of (pos 0) (pos 0) 8192 8192) ≡ 8388608
  -- 3 and 4 are both met, then 2, 3 and 4
  pub place_first : first_met (frame_conditions (window_of (pos 16380) (pos 0) 10 2) 3) ≡ 3
  pub size_first : first_met (frame_conditions (window_of (pos 16384) (pos 0) 0 2) 3) ≡ 2

-- The rows are 10000000 01 and 00100100 10, with all padding marked in the second row.
abbrev pub two_rows : List ℕ
two_rows = 128 ∷ 64 ∷ 36 ∷ 191 ∷ []

-- columns 10 to 12 of the frame in row 0, the second row's last three
abbrev pub three : ℤ → ℤ → Bool
three = span (pos 10) (pos 0) 3

pub record KnownBits : Type 0 where
  -- the first row's pixels, the second row's, and the second row's padding
  pub first_row : each 10 (λ c. marked ten two_rows c 0)
      ≡ true ∷ false ∷ false ∷ false ∷ false ∷ false ∷ false ∷ false ∷ false ∷ true ∷ []
  pub second_row : each 10 (λ c. marked ten two_rows c 1)
      ≡ false ∷ false ∷ true ∷ false ∷ false ∷ true ∷ false ∷ false ∷ true ∷ false ∷ []
  pub padding : each 6 (λ c. marked ten two_rows (10 + c) 1) ≡ true ∷ true ∷ true ∷ true ∷ true ∷ true ∷ []
  -- the corners of the window, and the pixels beside them
  pub inside : (in_window ten (record { column = pos 3; row = negsuc 0 }) ≡ true) × (in_window ten (record { column = pos 12; row = pos 0 }) ≡ true)
  pub left_of : in_window ten (record { column = pos 2; row = negsuc 0 }) ≡ false
  pub right_of : in_window ten (record { column = pos 13; row = negsuc 0 }) ≡ false
  pub above : in_window ten (record { column = pos 3; row = negsuc 1 }) ≡ false
  pub below : in_window ten (record { column = pos 3; row = pos 1 }) ≡ false

-- the start plus some pixels
pub record KnownPlus : Type 0 where
  -- bit 7 of the row's first byte and both of its second; its padding stays
  pub three_more : plus ten two_rows three ≡ 128 ∷ 64 ∷ 37 ∷ 255 ∷ []
  -- padding of the first row stays unmarked
  pub all_more : plus ten two_rows (λ column row. true) ≡ 255 ∷ 192 ∷ 255 ∷ 255 ∷ []
  -- two are marked in the first row, three in the second; padding is not counted
  pub marked_before : marked_count ten two_rows ≡ 5
  -- one of the three is marked before
  pub fresh : fresh_count ten two_rows three ≡ 2
  pub fresh_all : fresh_count ten two_rows (λ column row. true) ≡ 15
  pub marked_after : marked_count ten (plus ten two_rows three) ≡ 7
  -- of rows −2 to 1, the band of the window's second row alone has row 0
  pub rows : each 4 (λ k. in_rows ten 1 1 (pos k -ℤ pos 2)) ≡ false ∷ false ∷ true ∷ false ∷ []
