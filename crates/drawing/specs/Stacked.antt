-- Bands of any heights one after the other, from the first row to the last, take in each row of the window exactly once; so the rule on
-- bands that do is never empty. The proof is in proofs/Stacked.antt. Assumes nothing.
use Rattle.std.specs.Prelude.{ℕ, ◌+◌, ◌≤◌, ◌≡◌, List, [], ◌∷◌}
use Rattle.raster.specs.declared.window.Window.{Window}
use Rattle.drawing.specs.Band.{band_from}
use Rattle.drawing.specs.Calls.{EachRowOnce}
use Rattle.drawing.specs.declared.band.Band.{Band}

-- bands of these heights, one after the other, from a row on
unfoldable pub stack : ℕ → List ℕ → List Band
stack row [] = []
stack row (n ∷ ns) = band_from row n ∷ stack (row + n) ns

-- the heights added up
unfoldable pub height_of : List ℕ → ℕ
height_of [] = 0
height_of (n ∷ ns) = n + height_of ns

-- each of them is a row at least
abbrev pub SomeRows : List ℕ → Type 0
SomeRows [] = Unit
SomeRows (n ∷ ns) = (1 ≤ n) × SomeRows ns

abbrev pub StackedOnce : Window → List ℕ → Type 0
StackedOnce w ns = SomeRows ns → height_of ns ≡ w.height → EachRowOnce w (stack 0 ns)
