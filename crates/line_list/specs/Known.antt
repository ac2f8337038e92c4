-- Document 01, 'Known lines': the lettered lines, line E as document 02, 4/13, has it, and halves in every direction, as
-- statements about the definitions; their proof, by computation, is in proofs/Known.antt. Assumes nothing.
use Rattle.std.specs.Prelude.{ℕ, ◌+◌, ◌≡◌, cond, List, [], ◌∷◌, pos, eqb}
use Rattle.counting.specs.Count.{each}
use Rattle.coordinate.specs.Coordinate.{apart}
use Rattle.coordinate.specs.declared.axis.Axis.TheVariants.{X, Y}
use Rattle.coordinate.specs.declared.pixel.Pixel.{Pixel}
use Rattle.raster.specs.declared.window.Window.{Window}
use Rattle.drawing.specs.Drawing.{draw_counts, draw_raster}
use Rattle.line.specs.Line.{long, axis, pixel, long_of, across_of}
use Rattle.line.specs.Figure.{line_count, line_figure}
use Rattle.line.specs.Shorthand.{from, at, minus}
use Rattle.line.specs.declared.ends.Ends.{Ends}
use Rattle.line_list.specs.Runs.{lies, runs}

-- a window at (0,0)
abbrev pub sized : ℕ → ℕ → Window
sized width height = record { left = pos 0; top = pos 0; width = width; height = height }

-- the code of the step from pixel p to pixel q, by how far it goes across: 1 where both coordinates differ, 0 where the long one alone
-- does; 2 where the long one does not go by one
abbrev pub step_code : Ends → Pixel → Pixel → ℕ
step_code e p q = cond (eqb (apart (long_of e p) (long_of e q)) 1) (apart (across_of e p) (across_of e q)) 2

-- a code for each step of the line
unfoldable pub codes : Ends → List ℕ
unfolding long pixel long_of across_of
codes e = each (long e) (λ i. step_code e (pixel e i) (pixel e (i + 1)))

-- line H
abbrev pub line_h : Ends
line_h = from (pos 0) (pos 0) (pos 11) (pos 3)

pub record Lettered : Type 0 where
  pub A : (axis (from (pos 5) (pos 5) (pos 5) (pos 5)) ≡ X) × (runs (from (pos 5) (pos 5) (pos 5) (pos 5)) ≡ lies (pos 5) (pos 5) 1 ∷ [])
  pub B : runs (from (pos 0) (pos 0) (pos 10) (pos 0)) ≡ lies (pos 0) (pos 0) 11 ∷ []
  pub C : (axis (from (pos 0) (pos 0) (pos 3) (pos 3)) ≡ X)
      × (runs (from (pos 0) (pos 0) (pos 3) (pos 3))
      ≡ lies (pos 0) (pos 0) 1 ∷ lies (pos 1) (pos 1) 1 ∷ lies (pos 2) (pos 2) 1 ∷ lies (pos 3) (pos 3) 1 ∷ [])
  pub D : pixel (from (pos 0) (pos 0) (pos 2) (pos 1)) 1 ≡ at (pos 1) (pos 1)
  pub E : pixel (from (pos 2) (pos 1) (pos 0) (pos 0)) 1 ≡ at (pos 1) (pos 1)
  pub F : each 5 (λ i. (pixel (from (pos 0) (pos 0) (pos 4) (pos 2)) i).row) ≡ pos 0 ∷ pos 1 ∷ pos 1 ∷ pos 2 ∷ pos 2 ∷ []
  pub G : (axis (from (pos 0) (pos 0) (pos 3) (pos 7)) ≡ Y)
      × (runs (from (pos 0) (pos 0) (pos 3) (pos 7))
      ≡ lies (pos 0) (pos 0) 2 ∷ lies (pos 1) (pos 2) 2 ∷ lies (pos 2) (pos 4) 2 ∷ lies (pos 3) (pos 6) 2 ∷ [])
  pub H : codes line_h ≡ 0 ∷ 1 ∷ 0 ∷ 0 ∷ 0 ∷ 1 ∷ 0 ∷ 0 ∷ 0 ∷ 1 ∷ 0 ∷ []
  pub I : runs (from (pos 0) (pos 0) (minus 11) (minus 3))
      ≡ lies (pos 0) (minus 1) 2 ∷ lies (minus 1) (minus 5) 4 ∷ lies (minus 2) (minus 9) 4 ∷ lies (minus 3) (minus 11) 2 ∷ []
  pub J : (draw_raster (line_figure (from (minus 3) (pos 0) (pos 3) (pos 0))) (sized 4 1) (0 ∷ []) ≡ 240 ∷ [])
      × (line_count (from (minus 3) (pos 0) (pos 3) (pos 0)) (sized 4 1) ≡ 4)
  pub K : draw_raster (line_figure line_h) (sized 12 4) (0 ∷ 0 ∷ 0 ∷ 0 ∷ 0 ∷ 0 ∷ 0 ∷ 0 ∷ []) ≡ 192 ∷ 0 ∷ 60 ∷ 0 ∷ 3 ∷ 192 ∷ 0 ∷ 48 ∷ []

-- how many pixels of lettered lines are fresh
pub record LetteredFresh : Type 0 where
  -- all of line D's on a clear raster; none of line E's over it, which is line D from the other end
  pub D : (draw_counts (line_figure (from (pos 0) (pos 0) (pos 2) (pos 1))) (sized 3 2) (0 ∷ 0 ∷ [])).fresh ≡ 3
  pub E : (draw_counts (line_figure (from (pos 2) (pos 1) (pos 0) (pos 0))) (sized 3 2) (128 ∷ 96 ∷ [])).fresh ≡ 0
  -- padding that is marked is no pixel
  pub J : (draw_counts (line_figure (from (minus 3) (pos 0) (pos 3) (pos 0))) (sized 4 1) (15 ∷ [])).fresh ≡ 4
  -- none of line K's over itself
  pub K : (draw_counts (line_figure line_h) (sized 12 4) (192 ∷ 0 ∷ 60 ∷ 0 ∷ 3 ∷ 192 ∷ 0 ∷ 48 ∷ [])).fresh ≡ 0

-- the pixel between the ends of each line from (0,0) with L = 2 and S = 1, named by the direction along the long axis and then
-- the other: its exact short coordinate is 1/2, which goes to 1, or −1/2, which goes to 0
pub record KnownHalves : Type 0 where
  pub right_down : pixel (from (pos 0) (pos 0) (pos 2) (pos 1)) 1 ≡ at (pos 1) (pos 1)
  pub right_up : pixel (from (pos 0) (pos 0) (pos 2) (minus 1)) 1 ≡ at (pos 1) (pos 0)
  pub left_down : pixel (from (pos 0) (pos 0) (minus 2) (pos 1)) 1 ≡ at (minus 1) (pos 1)
  pub left_up : pixel (from (pos 0) (pos 0) (minus 2) (minus 1)) 1 ≡ at (minus 1) (pos 0)
  pub down_right : pixel (from (pos 0) (pos 0) (pos 1) (pos 2)) 1 ≡ at (pos 1) (pos 1)
  pub down_left : pixel (from (pos 0) (pos 0) (minus 1) (pos 2)) 1 ≡ at (pos 0) (pos 1)
  pub up_right : pixel (from (pos 0) (pos 0) (pos 1) (minus 2)) 1 ≡ at (pos 1) (minus 1)
  pub up_left : pixel (from (pos 0) (pos 0) (minus 1) (minus 2)) 1 ≡ at (pos 0) (minus 1)
  -- a line with a half at every odd step, and the same line from the other end
  pub falling : each 7 (λ i. (pixel (from (minus 3) (pos 1) (pos 3) (minus 2)) i).row)
      ≡ pos 1 ∷ pos 1 ∷ pos 0 ∷ pos 0 ∷ minus 1 ∷ minus 1 ∷ minus 2 ∷ []
  pub rising : each 7 (λ i. (pixel (from (pos 3) (minus 2) (minus 3) (pos 1)) i).row)
      ≡ minus 2 ∷ minus 1 ∷ minus 1 ∷ pos 0 ∷ pos 0 ∷ pos 1 ∷ pos 1 ∷ []
