-- Document 01, 'Turned away': 1, on either side of both limits of each of the ends' coordinates. The proof, by computation, is in
-- proofs/KnownRange.antt. Assumes nothing.
use Rattle.std.specs.Prelude.{ℕ, ◌≡◌, List, [], ◌∷◌, ℤ, pos}
use Rattle.refusal.specs.Refusal.{number_of}
use Rattle.raster.specs.declared.window.Window.{Window}
use Rattle.drawing.specs.Drawing.{draw_answer}
use Rattle.line.specs.Figure.{line_figure}
use Rattle.line.specs.Shorthand.{from, minus}
use Rattle.line.specs.declared.ends.Ends.{Ends}

-- the pixel (0,0) as a window
abbrev pub one_pixel : Window
one_pixel = record { left = pos 0; top = pos 0; width = 1; height = 1 }

-- the number that drawing such a line answers, 0 where it isn't refused, with z as 16383, 16384, −16384 and −16385
abbrev pub at_limits : (ℤ → Ends) → List ℕ
at_limits line = number (pos 16383) ∷ number (pos 16384) ∷ number (minus 16384) ∷ number (minus 16385) ∷ []
  where
    number : ℤ → ℕ
    number z = number_of (draw_answer (line_figure (line z)) one_pixel (0 ∷ []))

pub record KnownRange : Type 0 where
  pub first_column : at_limits (λ z. from z (pos 0) (pos 0) (pos 0)) ≡ 0 ∷ 1 ∷ 0 ∷ 1 ∷ []
  pub first_row : at_limits (λ z. from (pos 0) z (pos 0) (pos 0)) ≡ 0 ∷ 1 ∷ 0 ∷ 1 ∷ []
  pub second_column : at_limits (λ z. from (pos 0) (pos 0) z (pos 0)) ≡ 0 ∷ 1 ∷ 0 ∷ 1 ∷ []
  pub second_row : at_limits (λ z. from (pos 0) (pos 0) (pos 0) z) ≡ 0 ∷ 1 ∷ 0 ∷ 1 ∷ []
