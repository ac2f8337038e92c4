-- A row is in the first of the bands or in those below it, and in no two of them, since each begins where the one before ends.
use Prim.Native.Nat.{ℕ, ◌+◌, ◌≤◌, ◌<◌}
use mathlib.Core.Path.{◌≡◌, refl, ap, ap₂, ◌∙◌}
use mathlib.Core.Bool.{Bool, true, false, not, ◌&&◌}
use mathlib.Core.List.{List, [], ◌∷◌}
use native.Mathlib.Omega.{arith}
use native.Mathlib.Decide.{dec_lt}
use lib.IntN.{pos, ◌+ℤ◌}
use borrow.Author.Tests.{ne_eqb, le-ltb}
use Rattle.counting.specs.Count.{one}
use Rattle.raster.specs.declared.window.Window.{Window}
use Rattle.raster.proofs.Band.{row_in, row_above, row_below}
use Rattle.drawing.specs.Band.{band_from, band_out}
use Rattle.drawing.specs.Calls.{in_band, times_in}
use Rattle.drawing.specs.Stacked.{stack, height_of, SomeRows, StackedOnce}

module _ (w : Window) where
  -- a band that begins above the window's end and has rows is not refused
  accepted : (row n : ℕ) → 1 ≤ n → row + n ≤ w.height → band_out w (band_from row n) ≡ false
  unfolding band_out
  accepted row n some l = rw (ne_eqb n 0 (omega arith), le-ltb w.height (row + n) l)

  -- the rows below r are in none of the bands from r on
  none_above : (ns : List ℕ) (row r : ℕ) → r < row → times_in w (stack row ns) (w.top +ℤ pos r) ≡ 0
  unfolding times_in stack
  none_above [] row r l = refl
  none_above (n ∷ ns) row r l =
      let out : in_band w (band_from row n) (w.top +ℤ pos r) ≡ false =
      ap (λ (t : Bool). not (band_out w (band_from row n)) && t) (row_above w row n r l) ∙ and_none (not (band_out w (band_from row n))) in
      ap₂ ◌+◌ (ap one out) (none_above ns (row + n) r (omega arith))
    where
      and_none : (t : Bool) → (t && false) ≡ false
      and_none true = refl
      and_none false = refl

  once : (ns : List ℕ) (row r : ℕ) → SomeRows ns → row + height_of ns ≤ w.height → row ≤ r → r < row + height_of ns
      → times_in w (stack row ns) (w.top +ℤ pos r) ≡ 1
  unfolding times_in stack height_of
  once [] row r some l low high = absurd (omega arith)
  once (n ∷ ns) row r some l low high =
      let taken : band_out w (band_from row n) ≡ false = accepted row n some.0 (omega arith) in
      elim (dec_lt r (row + n)) [
        | yes p ↦
            ap₂ ◌+◌
            (ap one (ap₂ (λ (t u : Bool). not t && u) taken (row_in w row n r low p)))
            (none_above ns (row + n) r p)
        | no p ↦
            ap₂ ◌+◌
            (ap one (ap₂ (λ (t u : Bool). not t && u) taken (row_below w row n r (omega arith))))
            (once ns (row + n) r some.1 (omega arith) (omega arith) (omega arith))
      ]

  pub stacked_once : (ns : List ℕ) → StackedOnce w ns
  stacked_once ns some whole r l = once ns 0 r some (omega (arith, whole)) (omega arith) (omega (arith, whole))
