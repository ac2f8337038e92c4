-- What a walker's steps promise. Assumes nothing.
use Rattle.std.specs.Prelude.{ℕ, ◌+◌, ◌≡◌}
use Rattle.line_draw.specs.declared.walker.Walker.{Walker}

-- b is the walk a, n steps on
pub record Ahead (n : ℕ) (a b : Walker) : Type 0 where
  pub line_is : b.line ≡ a.line
  pub window_is : b.grid.window ≡ a.grid.window
  pub step_is : b.step ≡ a.step + n
