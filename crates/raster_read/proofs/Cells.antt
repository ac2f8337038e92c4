-- The first cell with left and top added is the first marked pixel, and its coordinates are in range, so the sums fit.
use Prim.Native.Nat.{ℕ, ◌*◌, ◌/◌, ◌%◌, ◌≤◌, ◌<◌}
use mathlib.Core.Path.{◌≡◌, refl, ap, ap₂, ◌∙◌}
use mathlib.Core.Bool.{Bool}
use mathlib.Core.List.{List}
use Rattle.std.specs.Prelude.{Option, None, Some}
use native.Mathlib.Omega.{arith}
use native.Mathlib.Nat.{mod-lt, div-lt_iff_lt-mul}
use lib.IntN.{ℤ, pos, ◌+ℤ◌}
use mir.Syntax.{w32}
use mir.Val.{to_z, of_z, SFits}
use Rattle.counting.specs.Count.{first}
use Rattle.std.proofs.lemmas.Option.{same_Some}
use Rattle.counting.proofs.First.{first_below}
use Rattle.coordinate.specs.declared.pixel.Pixel.{Pixel}
use Rattle.raster.specs.declared.window.Window.{Window}
use Rattle.raster.proofs.Frames.{Frame}
use Rattle.raster.proofs.Placing.{sum_fits, sum_kept}
use Rattle.raster_read.specs.Search.{placed, first_number, first_marked, cell_of}
use Rattle.raster_read.specs.declared.search.Cell.{Cell}

-- ---- the first cell

abbrev pixel_of : ℤ → ℤ → Pixel
pixel_of x y = record { column = x; row = y }

abbrev pixel_at : Window → ℕ → ℕ → Pixel
pixel_at w c r = pixel_of (w.left +ℤ pos c) (w.top +ℤ pos r)

abbrev cell : ℕ → ℕ → Cell
cell c r = record { column = c; row = r }

-- a cell that is the one of a number: in the window, and that number's pixel
record Located (w : Window) (c r : ℕ) (o : Option ℕ) : Type 0 where
  in_width : c < w.width
  in_height : r < w.height
  placed_is : Some (pixel_at w c r) ≡ placed w o

located : (w : Window) (f : ℕ → Bool) (c r : ℕ) → 1 ≤ w.width → Some (cell c r) ≡ cell_of w.width (first (w.height * w.width) f)
    → Located w c r (first (w.height * w.width) f)
located w f c r h e = go (first (w.height * w.width) f) (first_below (w.height * w.width) f) e
  where
    go : (o : Option ℕ) → ((k : ℕ) → o ≡ Some k → k < w.height * w.width) → Some (cell c r) ≡ cell_of w.width o → Located w c r o
    go None below q = absurd (let z : ◌≡◌ {A = ℕ} 0 1 = cc in omega arith)
    go (Some k) below q =
        let same : cell c r ≡ cell (k % w.width) (k / w.width) = same_Some _ _ q in
        let x : c ≡ k % w.width = ap (λ (z : Cell). z.column) same in
        let y : r ≡ k / w.width = ap (λ (z : Cell). z.row) same in
        record {
          in_width = rw x (mod-lt k h);
          in_height = rw y ((div-lt_iff_lt-mul h).1 (below k refl));
          placed_is = ap₂ (λ (a b : ℕ). Some (pixel_at w a b)) x y;
        }

-- ---- the search's answer

module _ (w : Window) (s : List ℕ) (n : ℕ) (f : Frame w n) (c r : ℕ) (e : Some (cell c r) ≡ cell_of w.width (first_number w s)) where
  cell_is : Located w c r (first_number w s)
  cell_is = located w _ c r f.size.width_min e

  pub cell_small : (c < 8192) × (r < 8192)
  cell_small = (omega (arith, cell_is.in_width, f.size.width_max), omega (arith, cell_is.in_height, f.size.height_max))

  pub column_fits : SFits w32 (to_z w32 (of_z w32 w.left) +ℤ to_z w32 c)
  column_fits = sum_fits w.left w.width c f.place.left_in f.place.right cell_is.in_width

  pub row_fits : SFits w32 (to_z w32 (of_z w32 w.top) +ℤ to_z w32 r)
  row_fits = sum_fits w.top w.height r f.place.top_in f.place.bottom cell_is.in_height

  -- the pixel as the code makes it
  pub found_is : Some (pixel_of (to_z w32 (of_z w32 (to_z w32 (of_z w32 w.left) +ℤ to_z w32 c))) (to_z w32 (of_z w32 (to_z w32 (of_z w32 w.top) +ℤ to_z w32 r))))
      ≡ first_marked w s
  unfolding first_marked
  found_is =
      ap₂ (λ (x y : ℤ). Some (pixel_of x y))
      (sum_kept w.left w.width c f.place.left_in f.place.right cell_is.in_width)
      (sum_kept w.top w.height r f.place.top_in f.place.bottom cell_is.in_height)
      ∙ cell_is.placed_is

pub none_is : (w : Window) (s : List ℕ) → None ≡ cell_of w.width (first_number w s) → None ≡ first_marked w s
unfolding first_marked
none_is w s e = go (first_number w s) e
  where
    go : (o : Option ℕ) → None ≡ cell_of w.width o → None ≡ placed w o
    go None q = refl
    go (Some k) q = absurd (let z : ◌≡◌ {A = ℕ} 0 1 = cc in omega arith)
