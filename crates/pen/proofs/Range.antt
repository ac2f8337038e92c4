-- The whole number nearest to x is a coordinate where −16384.5 ≤ x < 16383.5.
use Prim.Native.Nat.{ℕ, ◌+◌, ◌*◌, ◌<◌}
use mathlib.Core.Path.{◌≡◌, refl, sym, ◌∙◌}
use mathlib.Core.Bool.{Bool, true, false, not, ◌||◌, or-false, true≢false}
use native.Mathlib.Omega.{arith}
use borrow.Author.Tests.{ltb-true, ltb-false, lt-ltb, not-true, not-false}
use lib.IntN.{pos, negsuc}
use lib.Dec.{ltb}
use lib.Ieee.{Float, nan, inf, fin, up, down, below, lt}
use lib.Ieee.Fits.{down_pos}
use lib.Ieee.Scale.{finite}
use Rattle.coordinate.specs.Coordinate.{out_of_range}
use Rattle.coordinate.specs.Nearest.{nearest}
use Rattle.coordinate.proofs.Difference.{diff_pos}
use Rattle.coordinate.proofs.Nearest.{nearest_in, in_nearest}
use Rattle.pen.specs.Worth.{signed, numerator, denominator, nearest_to}
use Rattle.pen.proofs.Compare.{below_half}
use Rattle.pen.proofs.Nearest.{diff_negative}

-- a test that fails where the other does, and nowhere else
agrees : (t u : Bool) → (u ≡ false → t ≡ false) → (u ≡ true → t ≡ false → ⊥) → t ≡ u
agrees t false f g = f refl
agrees true true f g = refl
agrees false true f g = absurd (g refl refl)

module _ (n d : ℕ) (D : 0 < d) where
  out_positive : out_of_range (nearest (pos n) d) ≡ not (ltb (n * 2) (32767 * d))
  out_positive =
      let above = ltb (n * 2) (32767 * d) in
      agrees (out_of_range (nearest (pos n) d)) (not above)
      (λ e.
      in_nearest (pos n) d n 0 D (diff_pos n) (omega arith) (omega (arith, ltb-true (n * 2) (32767 * d) (not-false above e))))
      (λ e o.
      omega (arith, ltb-false (n * 2) (32767 * d) (not-true above e), (nearest_in (pos n) d n 0 D (diff_pos n) o).1))

  out_negative : out_of_range (nearest (signed true n) d) ≡ ltb (32769 * d) (n * 2)
  out_negative =
      agrees (out_of_range (nearest (signed true n) d)) (ltb (32769 * d) (n * 2))
      (λ e.
      in_nearest (signed true n) d 0 n D (diff_negative n) (omega (arith, ltb-false (32769 * d) (n * 2) e)) (omega (arith, D)))
      (λ e o.
      omega (arith, ltb-true (32769 * d) (n * 2) e, (nearest_in (signed true n) d 0 n D (diff_negative n) o).0))

-- −16384.5 and 16383.5
abbrev pub least : Float
least = fin true 32769 (negsuc 0)

abbrev pub past : Float
past = fin false 32767 (negsuc 0)

parted : (s : Bool) (n d : ℕ) → 0 < d
    → out_of_range (nearest (signed s n) d) ≡ (below s (n * 2) true (32769 * d) || not (below s (n * 2) false (32767 * d)))
parted false n d D = out_positive n d D
parted true n d D = rw (lt-ltb 0 (n * 2 + 32767 * d) (omega arith)) (out_negative n d D ∙ sym (or-false (ltb (32769 * d) (n * 2))))

pub out_is : (x : Float) → finite x ≡ true → out_of_range (nearest_to x) ≡ (lt x least || not (lt x past))
unfolding nearest_to numerator denominator
out_is nan f = absurd (true≢false (sym f))
out_is (inf s) f = absurd (true≢false (sym f))
out_is (fin s m e) f =
    rw (below_half (fin s m e) s (m * up e) (down e) (down_pos e) (refl, refl) true 32769, below_half (fin s m e) s (m * up e) (down e) (down_pos e) (refl, refl) false 32767)
    (parted s (m * up e) (down e) (down_pos e))
