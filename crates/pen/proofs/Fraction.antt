-- x % 1.0 is the fraction of x, with its sign, and exact: it has no more digits than x, and its last place is the last of x.
use Prim.Native.Nat.{ℕ, zero, suc, ◌+◌, ◌-◌, ◌*◌, ◌%◌, ◌^◌, ◌≤◌, ◌<◌}
use mathlib.Core.Path.{◌≡◌, sym, ap, ◌∙◌, subst}
use mathlib.Core.Bool.{Bool, true, false, not, ◌&&◌}
use native.Mathlib.Nat.{one-mul, mul-one, mul_assoc, mod-le, mod-lt, zero-mod, zero-mul, lt_irrefl, lt_of_le_of_lt, lt_of_lt_of_le}
use native.Mathlib.Omega.{arith}
use lib.IntN.{ℤ, pos, negsuc}
use lib.Dec.{T, leb, ltb, eqb, leb→le, ltb→lt, nltb→le, lit≤, lit<}
use lib.Pow.{shl_lt, pow-lt, pow-add, pow_pos, pow_mono}
use lib.Ieee.{Float, fin, binary32, up, down, round, rem, fits}
use lib.Ieee.Fits.{and_l, and_r}
use lib.Ieee.Exact.{HasValue, round_exact}

abbrev pub one : Float
one = fin false 1 (pos 0)

rem_is : (s : Bool) (m : ℕ) (e : ℤ) → rem binary32 (fin s m e) one ≡ round binary32 s (m * up e % down e) (down e)
unfolding rem
rem_is s m e = rw (mul-one (m * up e), one-mul (down e), mul-one (down e))

pow_le_back : (i p : ℕ) → 2 ^ i ≤ 2 ^ p → i ≤ p
pow_le_back i p h = go (ltb p i) (ltb→lt p i) (nltb→le p i)
  where
    go : (b : Bool) → (T b → p < i) → (T (not b) → i ≤ p) → i ≤ p
    go true k l = absurd (lt_irrefl (2 ^ p) (lt_of_lt_of_le (pow-lt (k tt)) h))
    go false k l = l tt

-- r / 2^i is exact for an r of at most 24 digits and an i of at most 149
part_exact : (s : Bool) (r i : ℕ) → r < 2 ^ 24 → i ≤ 149 → HasValue (round binary32 s r (2 ^ i)) s r (2 ^ i)
part_exact s r i small top =
    let j = 149 - i in
    let p : 2 ^ 149 ≡ 2 ^ j * 2 ^ i = ap (λ (z : ℕ). 2 ^ z) (rejoin i top) ∙ pow-add 2 j i in
    round_exact binary32 s r (2 ^ i) r j (pow_pos i) small (lt_of_lt_of_le (shl_lt 24 j small) (pow_mono (room i)))
    (ap (λ (z : ℕ). r * z) p ∙ sym (mul_assoc r (2 ^ j) (2 ^ i)))
  where
    rejoin : (i : ℕ) → i ≤ 149 → 149 ≡ 149 - i + i
    rejoin i h = omega arith

    room : (i : ℕ) → 24 + (149 - i) ≤ 277
    room i = omega arith

fraction_exact : (s : Bool) (m : ℕ) (e : ℤ) → T (fits binary32 (fin s m e))
    → HasValue (round binary32 s (m * up e % down e) (down e)) s (m * up e % down e) (down e)
unfolding fits
fraction_exact s m (pos k) f = part_exact s (m * 2 ^ k % 1) 0 (lt_of_lt_of_le (mod-lt (m * 2 ^ k) {m = 1} (lit< tt)) (lit≤ tt)) (lit≤ tt)
fraction_exact s zero (negsuc k) f =
    rw (zero-mod (2 ^ suc k)) (round_exact binary32 s 0 (2 ^ suc k) 0 0 (pow_pos (suc k)) (lit< tt) (lit< tt) (sym (zero-mul (2 ^ suc k))))
fraction_exact s (suc m) (negsuc k) f =
    let d = 2 ^ suc k in
    let odd = eqb (suc m % 2) 1 in
    let digits = ltb (suc m) (2 ^ 24) in
    let place = leb d (2 ^ 149) in
    let t = and_l (odd && digits && place) (ltb (suc m * 1) (2 ^ 128 * d)) f in
    let small : suc m * 1 % d < 2 ^ 24 =
    lt_of_le_of_lt (mod-le (suc m * 1) d)
    (subst (λ (z : ℕ). z < 2 ^ 24) (sym (mul-one (suc m))) (ltb→lt (suc m) (2 ^ 24) (and_r odd digits (and_l (odd && digits) place t)))) in
    part_exact s (suc m * 1 % d) (suc k) small (pow_le_back (suc k) 149 (leb→le d (2 ^ 149) (and_r (odd && digits) place t)))

pub fraction_is : (s : Bool) (m : ℕ) (e : ℤ) → T (fits binary32 (fin s m e))
    → HasValue (rem binary32 (fin s m e) one) s (m * up e % down e) (down e)
fraction_is s m e f =
    subst (λ (z : Float). HasValue z s (m * up e % down e) (down e)) (sym (rem_is s m e)) (fraction_exact s m e f)
