-- Figures with the same refusals, pixels and counts are one figure, so every drawing of them is the same.
use Prim.Native.Nat.{ℕ}
use mathlib.Core.Path.{◌≡◌, ap, ap₂, ◌∙◌, fun_ext}
use mathlib.Core.Bool.{Bool}
use mathlib.Core.List.{List}
use lib.IntN.{ℤ}
use Rattle.raster.specs.declared.window.Window.{Window}
use Rattle.drawing.specs.Figure.{Figure}

pub same_figure : (f g : Figure) → f.refusals ≡ g.refusals → ((x y : ℤ) → f.has x y ≡ g.has x y) → ((w : Window) → f.count w ≡ g.count w) → f ≡ g
same_figure f g p q r =
    ap₂ (λ (cs : List (ℕ × Bool)) (has : ℤ → ℤ → Bool). record { refusals = cs; has = has; count = f.count }) p (fun_ext (λ x. fun_ext (λ y. q x y)))
    ∙ ap (λ (count : Window → ℕ). record { refusals = g.refusals; has = g.has; count = count }) (fun_ext r)
