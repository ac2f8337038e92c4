-- What can be drawn: a line, the runs of a list, a frame's records, and every shape to come. What drawing it means is said once, in
-- Drawing.antt, Band.antt and Calls.antt, of any figure. Assumes nothing.
use Rattle.std.specs.Prelude.{ℕ, ◌≡◌, Bool, List, [], ℤ, pos, ◌+ℤ◌}
use Rattle.counting.specs.Count.{any, sum}
use Rattle.refusal.specs.Refusal.{Numbered}
use Rattle.raster.specs.Fresh.{count_pixels}
use Rattle.raster.specs.declared.window.Window.{Window}

pub record Figure : Type 0 where
  -- the conditions that refuse the figure itself, in their order and each with its number
  pub refusals : List (ℕ × Bool)
  -- the pixel in a column and a row is one of its pixels
  pub has : ℤ → ℤ → Bool
  -- how many of its pixels lie in a window, by the figure's own definition
  pub count : Window → ℕ

-- n figures drawn one after another: a pixel is theirs if one of them has it, and their counts are added up, an overlap counted each
-- time. What refuses one of them is tested before, by whoever has listed them.
abbrev pub several : ℕ → (ℕ → Figure) → Figure
several n figures =
    record {
      refusals = [];
      has = λ column row. any n (λ k. (figures k).has column row);
      count = λ w. sum n (λ k. (figures k).count w);
    }

-- ---- what a figure's count is bound to

-- how many pixels of the window have P, a predicate of the column and the row
abbrev pub pixels_in : Window → (ℤ → ℤ → Bool) → ℕ
pixels_in w P = count_pixels w (λ c r. P (w.left +ℤ pos c) (w.top +ℤ pos r))

-- a single figure counts each of its pixels once, in every window
abbrev pub EachOnce : Figure → Type 0
EachOnce f = (w : Window) → f.count w ≡ pixels_in w f.has

-- What every figure has to be; all that is said of drawing then holds of it. A made-up count is none of a figure's.
pub record Drawable (f : Figure) : Type 0 where
  -- each condition that refuses it has a number; 0 stands for none
  pub numbered : Numbered f.refusals
  -- it is `parts` sets of pixels: a pixel is its where one of them has it, and it counts the pixels of each set once
  pub parts : ℕ
  pub part : ℕ → ℤ → ℤ → Bool
  pub has_is : (column row : ℤ) → f.has column row ≡ any parts (λ k. part k column row)
  pub count_is : (w : Window) → f.count w ≡ sum parts (λ k. pixels_in w (part k))
