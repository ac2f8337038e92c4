-- Run lists chosen by hand, from documents 01 and 02: what the painter marks, counts and leaves, which runs are bad, and in which order
-- it refuses. The proof, by computation, is in proofs/Known.antt. Assumes nothing.
use Rattle.std.specs.Prelude.{ℕ, ◌≡◌, List, [], ◌∷◌, ℤ, pos, negsuc}
use Rattle.coordinate.specs.declared.axis.Axis.{Axis}
use Rattle.coordinate.specs.declared.axis.Axis.TheVariants.{X, Y}
use Rattle.refusal.specs.Refusal.{Answer, given, refused, refused_at}
use Rattle.raster.specs.declared.window.Window.{Window}
use Rattle.drawing.specs.Counts.{counts}
use Rattle.drawing.specs.declared.counts.Counts.{Counts}
use Rattle.runs.specs.Painting.{paint_answer, paint_after}

-- Columns 2 to 6 and rows 5 to 7 of the frame. A row is one byte: its pixels are the bits worth 128, 64, 32, 16 and 8.
abbrev pub small : Window
small = record { left = pos 2; top = pos 5; width = 5; height = 3 }

abbrev pub clear : List ℕ
clear = 0 ∷ 0 ∷ 0 ∷ []

-- given the axis, the count, the list and this start, the painter answers these counts and leaves this raster
abbrev pub Marks : Axis → ℕ → List ℤ → List ℕ → Counts → List ℕ → Type 0
Marks a n list s c after = (paint_answer a n list small s ≡ given c) × (paint_after a n list small s ≡ after)

-- along x the painter answers this refusal, and leaves the raster as it was
abbrev pub Refuses : Window → List ℕ → ℕ → List ℤ → Answer Counts → Type 0
Refuses w s n list a = (paint_answer X n list w s ≡ a) × (paint_after X n list w s ≡ s)

-- a run's three numbers: short coordinate, lowest long one, number of pixels; negsuc n is −(n + 1)
pub record KnownPainted : Type 0 where
  -- row 6, columns 3 and 4
  pub along_x : Marks X 1 (pos 6 ∷ pos 3 ∷ pos 2 ∷ []) clear (counts 2 2) (0 ∷ 96 ∷ 0 ∷ [])
  -- column 3, rows 6 and 7
  pub along_y : Marks Y 1 (pos 3 ∷ pos 6 ∷ pos 2 ∷ []) clear (counts 2 2) (0 ∷ 64 ∷ 64 ∷ [])
  -- columns 3 and 4, then 4 and 5; column 3 and the padding are marked before
  pub overlap : Marks X 2 (pos 6 ∷ pos 3 ∷ pos 2 ∷ pos 6 ∷ pos 4 ∷ pos 2 ∷ []) (0 ∷ 71 ∷ 0 ∷ []) (counts 4 2) (0 ∷ 119 ∷ 0 ∷ [])
  pub twice : Marks X 2 (pos 6 ∷ pos 3 ∷ pos 2 ∷ pos 6 ∷ pos 3 ∷ pos 2 ∷ []) clear (counts 4 2) (0 ∷ 96 ∷ 0 ∷ [])
  -- numbers behind the counted runs are not looked at, though they are a bad run
  pub behind : Marks X 1 (pos 6 ∷ pos 3 ∷ pos 2 ∷ pos 5 ∷ pos 2 ∷ pos 0 ∷ []) clear (counts 2 2) (0 ∷ 96 ∷ 0 ∷ [])
  pub no_runs : Marks X 0 (pos 5 ∷ pos 2 ∷ pos 0 ∷ []) (1 ∷ 2 ∷ 130 ∷ []) (counts 0 0) (1 ∷ 2 ∷ 130 ∷ [])
  -- columns −3 to 3, 5 to 13, 0 to 19, and 2 to 6 of a row above
  pub over_left : Marks X 1 (pos 5 ∷ negsuc 2 ∷ pos 7 ∷ []) clear (counts 2 2) (192 ∷ 0 ∷ 0 ∷ [])
  pub over_right : Marks X 1 (pos 7 ∷ pos 5 ∷ pos 9 ∷ []) clear (counts 2 2) (0 ∷ 0 ∷ 24 ∷ [])
  pub over_both : Marks X 1 (pos 6 ∷ pos 0 ∷ pos 20 ∷ []) clear (counts 5 5) (0 ∷ 248 ∷ 0 ∷ [])
  pub above : Marks X 1 (pos 4 ∷ pos 2 ∷ pos 5 ∷ []) clear (counts 0 0) clear
  -- rows 0 to 6, 7 to 10, and 5 to 7 of a column on the right
  pub over_top : Marks Y 1 (pos 2 ∷ pos 0 ∷ pos 7 ∷ []) clear (counts 2 2) (128 ∷ 128 ∷ 0 ∷ [])
  pub over_bottom : Marks Y 1 (pos 6 ∷ pos 7 ∷ pos 4 ∷ []) clear (counts 1 1) (0 ∷ 0 ∷ 8 ∷ [])
  pub right_of : Marks Y 1 (pos 7 ∷ pos 5 ∷ pos 3 ∷ []) clear (counts 0 0) clear

-- 8, on either side of each limit, and its place
pub record KnownBad : Type 0 where
  pub one_pixel : Marks X 1 (pos 6 ∷ pos 3 ∷ pos 1 ∷ []) clear (counts 1 1) (0 ∷ 64 ∷ 0 ∷ [])
  pub no_pixel : Refuses small clear 1 (pos 6 ∷ pos 3 ∷ pos 0 ∷ []) (refused_at 8 0)
  pub below_none : Refuses small clear 1 (pos 6 ∷ pos 3 ∷ negsuc 0 ∷ []) (refused_at 8 0)
  -- from −16384 on, and from −16385 on
  pub lowest_first : Marks X 1 (pos 6 ∷ negsuc 16383 ∷ pos 1 ∷ []) clear (counts 0 0) clear
  pub below_lowest : Refuses small clear 1 (pos 6 ∷ negsuc 16384 ∷ pos 5 ∷ []) (refused_at 8 0)
  -- columns 16380 to 16383, and one more
  pub highest_last : Marks X 1 (pos 6 ∷ pos 16380 ∷ pos 4 ∷ []) clear (counts 0 0) clear
  pub above_highest : Refuses small clear 1 (pos 6 ∷ pos 16380 ∷ pos 5 ∷ []) (refused_at 8 0)
  -- the same of the short coordinate
  pub lowest_short : Marks X 1 (negsuc 16383 ∷ pos 3 ∷ pos 1 ∷ []) clear (counts 0 0) clear
  pub short_below : Refuses small clear 1 (negsuc 16384 ∷ pos 3 ∷ pos 1 ∷ []) (refused_at 8 0)
  pub highest_short : Marks X 1 (pos 16383 ∷ pos 3 ∷ pos 1 ∷ []) clear (counts 0 0) clear
  pub short_above : Refuses small clear 1 (pos 16384 ∷ pos 3 ∷ pos 1 ∷ []) (refused_at 8 0)
  -- of three runs the second and the last are bad; the last alone; no bit changes for the lawful ones
  pub second : Refuses small clear 3 (pos 6 ∷ pos 3 ∷ pos 2 ∷ pos 6 ∷ pos 3 ∷ pos 0 ∷ pos 16384 ∷ pos 3 ∷ pos 1 ∷ []) (refused_at 8 1)
  pub last : Refuses small clear 3 (pos 6 ∷ pos 3 ∷ pos 2 ∷ pos 6 ∷ pos 3 ∷ pos 1 ∷ pos 16384 ∷ pos 3 ∷ pos 1 ∷ []) (refused_at 8 2)

-- 7 and its border, also where three times the count is 2 above 2 ^ 32; and the first condition that is met decides, in the order of the
-- numbers: in each of the first four all later ones are met too
pub record KnownOrder : Type 0 where
  pub two : Refuses (record { left = negsuc 16384; top = pos 5; width = 0; height = 3 }) (9 ∷ []) 1 [] (refused 2)
  pub three : Refuses (record { left = negsuc 16384; top = pos 5; width = 5; height = 3 }) (9 ∷ []) 1 [] (refused 3)
  pub four : Refuses small (9 ∷ []) 1 [] (refused 4)
  pub seven : Refuses small (9 ∷ 9 ∷ 9 ∷ []) 1 [] (refused 7)
  pub eight : Refuses small (9 ∷ 9 ∷ 9 ∷ []) 1 (pos 6 ∷ pos 3 ∷ pos 0 ∷ []) (refused_at 8 0)
  pub room : Marks X 2 (pos 6 ∷ pos 3 ∷ pos 1 ∷ pos 7 ∷ pos 4 ∷ pos 1 ∷ []) clear (counts 2 2) (0 ∷ 64 ∷ 32 ∷ [])
  pub one_missing : Refuses small clear 2 (pos 6 ∷ pos 3 ∷ pos 1 ∷ pos 7 ∷ pos 4 ∷ []) (refused 7)
  pub one_run_more : Refuses small clear 3 (pos 6 ∷ pos 3 ∷ pos 1 ∷ pos 7 ∷ pos 4 ∷ pos 1 ∷ []) (refused 7)
  pub far : Refuses small clear 1431655766 (pos 6 ∷ pos 3 ∷ pos 1 ∷ []) (refused 7)
