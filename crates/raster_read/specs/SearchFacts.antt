-- Document 01, 'Operations': what the search finds, by columns and rows. Row by row from the top, and in each row from the left, it is
-- the first pixel that is marked, in frame coordinates, and none only where no bit within the width is marked. The proofs are in
-- proofs/SearchFacts.antt. Assumes nothing.
use Rattle.std.specs.Prelude.{ℕ, ◌<◌, ◌≡◌, true, false, List, pos, ◌+ℤ◌, Some, None}
use Rattle.coordinate.specs.declared.pixel.Pixel.{Pixel}
use Rattle.raster.specs.Raster.{marked}
use Rattle.raster.specs.declared.window.Window.{Window}
use Rattle.raster_read.specs.Search.{first_marked}

-- no bit within the width is marked
abbrev pub NoneMarked : Window → List ℕ → Type 0
NoneMarked w s = (c r : ℕ) → c < w.width → r < w.height → marked w s c r ≡ false

-- the pixel in column c and row r of the window is marked, and no pixel of the rows above it, or left of it in its row
pub record IsFirst (w : Window) (s : List ℕ) (c r : ℕ) : Type 0 where
  pub in_width : c < w.width
  pub in_height : r < w.height
  pub is_marked : marked w s c r ≡ true
  pub rows_above : (x y : ℕ) → x < w.width → y < r → marked w s x y ≡ false
  pub left_of : (x : ℕ) → x < c → marked w s x r ≡ false

-- such a pixel in the frame: left and top added
abbrev pub frame_pixel : Window → ℕ → ℕ → Pixel
frame_pixel w c r = record { column = w.left +ℤ pos c; row = w.top +ℤ pos r }

pub record SearchFacts (w : Window) (s : List ℕ) : Type 0 where
  pub none_there : NoneMarked w s → first_marked w s ≡ None
  pub none_only : first_marked w s ≡ None → NoneMarked w s
  pub found_there : (c r : ℕ) → IsFirst w s c r → first_marked w s ≡ Some (frame_pixel w c r)
  pub found_only : (p : Pixel) → first_marked w s ≡ Some p → (c : ℕ) × (r : ℕ) × IsFirst w s c r × (p ≡ frame_pixel w c r)
