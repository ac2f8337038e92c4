-- std's bytes of a number, and the number of some bytes, are those of the definition.
use Prim.Native.Nat.{ℕ, suc, ◌+◌, ◌-◌, ◌/◌, ◌<◌}
use mathlib.Core.Path.{◌≡◌, refl, sym}
use mathlib.Core.Bool.{Bool, true, false, cond}
use mathlib.Core.List.{List, [], ◌∷◌}
use native.Mathlib.Omega.{arith}
use native.Mathlib.Nat.{div-div-eq-div-mul}
use lib.IntN.{ℤ, pos, negsuc, ◌-ℤ◌}
use lib.ListN.{get_or}
use lib.Dec.{ltb}
use mir.Syntax.{w16, w32}
use mir.Val.{SFits, to_z, of_z, sel}
use Rattle.std.specs.Int.{to_le_bytes, from_le_bytes}
use Rattle.coordinate.specs.Coordinate.{out_of_range}
use Rattle.coordinate.proofs.Difference.{diff_parts, diff_gap, diff_eq, diff_mag}
use Rattle.coordinate.proofs.Bias.{in_range}
use Rattle.reel.specs.Numbers.{bytes_of, number_at, complement, signed}

module _ (s : List ℕ) (at : ℕ) where
  pub two_read : from_le_bytes w16 (get_or s at 0 ∷ get_or s (at + 1) 0 ∷ []) ≡ number_at 2 s at
  unfolding number_at
  two_read = omega arith

  pub four_read : from_le_bytes w32 (get_or s at 0 ∷ get_or s (at + 1) 0 ∷ get_or s (at + 2) 0 ∷ get_or s (at + 3) 0 ∷ []) ≡ number_at 4 s at
  unfolding number_at
  four_read =
      let third : at + 1 + 1 ≡ at + 2 = omega arith in
      let fourth : at + 2 + 1 ≡ at + 3 = omega arith in
      rw (third, fourth) (omega arith)

pub two_written : (x : ℕ) → to_le_bytes w16 x ≡ bytes_of 2 x
unfolding bytes_of
two_written x = refl

pub four_written : (x : ℕ) → to_le_bytes w32 x ≡ bytes_of 4 x
unfolding bytes_of
four_written x =
    let third : x / 256 / 256 ≡ x / 65536 = div-div-eq-div-mul x 256 256 in
    let fourth : x / 65536 / 256 ≡ x / 16777216 = div-div-eq-div-mul x 65536 256 in
    rw (third, fourth)

-- ---- two's complement

pub signed_is : (x : ℕ) → x < 65536 → to_z w16 x ≡ signed x
signed_is x l = go (ltb x 32768) refl
  where
    go : (t : Bool) → ltb x 32768 ≡ t → sel t (pos x) (negsuc (65536 - suc x)) ≡ cond t (pos x) (pos x -ℤ pos 65536)
    go true e = refl
    go false e =
        sym (diff_eq _ _ _ _ _ _ (diff_gap x 65536) (diff_parts (negsuc (65536 - suc x))) (omega arith))

pub complement_is : (z : ℤ) → of_z w16 z ≡ complement z
complement_is (pos n) = refl
complement_is (negsuc n) = refl

pub coordinate_fits : (z : ℤ) → out_of_range z ≡ false → SFits w16 z
coordinate_fits z e =
    let r = in_range z _ _ (diff_parts z) e in
    record { sfits = diff_mag z _ _ 32768 (diff_parts z) (omega arith) (omega arith) }
