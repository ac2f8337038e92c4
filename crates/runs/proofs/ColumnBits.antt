-- The bits of a column from a row on, one to a row: the loop sets one more each turn, and in a window they are a run along y.
use Prim.Native.Nat.{ℕ, zero, suc, ◌+◌, ◌*◌, ◌<◌}
use mathlib.Core.Path.{◌≡◌, refl, sym, ap, ◌∙◌}
use mathlib.Core.Bool.{Bool, ◌||◌}
use mathlib.Core.List.{List}
use native.Mathlib.Numerals.{add-one}
use lib.IntN.{ℤ, pos, ◌+ℤ◌}
use lib.ListN.{length}
use lib.Dec.{eqb}
use Rattle.counting.specs.Count.{any}
use Rattle.coordinate.specs.declared.axis.Axis.TheVariants.{Y}
use Rattle.coordinate.proofs.Shift.{shift_twice}
use Rattle.raster.specs.Raster.{row_bytes, plus}
use Rattle.raster.specs.Bits.{with_bits, bit_of, point}
use Rattle.raster.specs.declared.window.Window.{Window}
use Rattle.raster.proofs.Over.{Bytes}
use Rattle.raster.proofs.Frames.{Shaped}
use Rattle.raster.proofs.Plus.{plus-plus, plus_none, plus-length}
use Rattle.raster.proofs.BitLaws.{bits_bits, bits_none, point-plus}
use Rattle.runs.specs.Run.{in_run}
use Rattle.runs.specs.Parts.{down_from}

-- the bits of i rows of `stride` bits from row `row` on, at column `column`
abbrev pub column_bits : ℕ → ℕ → ℕ → ℕ → ℕ → Bool
column_bits column row stride i p = any i (λ j. eqb p ((row + j) * stride + column))

module _ (s : List ℕ) (column row stride : ℕ) where
  pub column_none : Bytes s → s ≡ with_bits (column_bits column row stride 0) s
  unfolding any
  column_none bytes = sym (bits_none (column_bits column row stride 0) s bytes (λ p. refl))

  -- the bit of one row more
  pub column_on : (t u : List ℕ) (i p : ℕ) → t ≡ with_bits (column_bits column row stride i) s → p ≡ (row + i) * stride + column
      → u ≡ with_bits (λ q. eqb q p) t → u ≡ with_bits (column_bits column row stride (i + 1)) s
  unfolding any
  column_on t u i p e place put =
      rw (add-one i) (put ∙ rw (e, place) (bits_bits (column_bits column row stride i) (λ q. eqb q ((row + i) * stride + column)) s))

-- in a window
pub column-plus : (w : Window) (c r n : ℕ) (s : List ℕ) → Shaped w (length s) → Bytes s → c < w.width
    → with_bits (column_bits c r (8 * row_bytes w.width) n) s ≡ plus w s (in_run Y (down_from w c r n))
unfolding any in_run bit_of
column-plus w c r zero s shape bytes lc =
    bits_none (column_bits c r (8 * row_bytes w.width) 0) s bytes (λ p. refl) ∙ sym (plus_none w s shape (in_run Y (down_from w c r 0)) bytes (λ c' r' lc' lr'. refl))
column-plus w c r (suc n) s shape bytes lc =
    let P : ℤ → ℤ → Bool = in_run Y (down_from w c r n) in
    sym (bits_bits (column_bits c r (8 * row_bytes w.width) n) (λ q. eqb q (bit_of w c (r + n))) s)
    ∙ ap (with_bits (λ q. eqb q (bit_of w c (r + n)))) (column-plus w c r n s shape bytes lc)
    ∙ point-plus w c (r + n) (plus w s P) (record { wide = shape.wide; length_is = plus-length w s P ∙ shape.length_is }) lc
    ∙ plus-plus w s P (point (w.left +ℤ pos c) (w.top +ℤ pos (r + n)))
    ∙ ap (λ (z : ℤ). plus w s (λ x y. P x y || point (w.left +ℤ pos c) z x y)) (sym (shift_twice w.top r n))
