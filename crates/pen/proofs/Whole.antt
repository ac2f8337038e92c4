-- x less its fraction is its whole part, exactly, and never −0: equal numbers of one sign leave +0. So the cast loses nothing.
use Prim.Native.Nat.{ℕ, ◌+◌, ◌-◌, ◌*◌, ◌/◌, ◌%◌, ◌^◌, ◌≤◌, ◌<◌, min}
use mathlib.Core.Path.{◌≡◌, refl, sym, ap, ◌∙◌, subst}
use mathlib.Core.Bool.{Bool, true, false, not, ◌&&◌, cond, true≢false}
use native.Mathlib.Nat.{zero-mul, mul-one, mul_assoc, mul-pos, mul-le-mul_right, lt_of_mul-lt-mul_right, le_of_mul-le-mul_right, add-mul, mod-le, div-add-mod', mul-div_cancel, mul-mod_left, lt_irrefl, lt_of_lt_of_le}
use native.Mathlib.Omega.{arith}
use borrow.Author.Tests.{ltb-true, ltb-false, le-leb, lt-ltb, ne_eqb}
use lib.IntN.{ℤ, pos, neg_ℤ}
use lib.Dec.{T, ltb, eqb, ltb→lt, lit≤, lit<}
use lib.Pow.{shl_lt}
use lib.Ieee.{Float, nan, inf, fin, binary32, up, down, round, sum, add, sub, neg, whole, in_signed, to_signed}
use lib.Ieee.Fits.{down_pos}
use lib.Ieee.Exact.{HasValue, round_exact}
use lib.Ieee.Scale.{round_same}
use lib.Ieee.Positive.{first_pos}
use Rattle.pen.specs.Worth.{signed}

-- the sign of ± a less ± b, b being at most a
abbrev pub left : Bool → ℕ → ℕ → Bool
left s a b = s && ltb b a

pub less_is : (s : Bool) (a b c : ℕ) → b ≤ a → sum binary32 s a (not s) b c ≡ round binary32 (left s a b) (a - b) c
unfolding sum
less_is true a b c h = go (ltb a b) (ltb→lt a b)
  where
    go : (t : Bool) → (T t → a < b) → cond t (round binary32 false (b - a) c) (round binary32 (left true a b) (a - b) c) ≡ round binary32 (left true a b) (a - b) c
    go true k = absurd (omega (arith, k tt))
    go false k = refl
less_is false a b c h = go (ltb a b) (ltb→lt a b)
  where
    go : (t : Bool) → (T t → a < b) → cond t (round binary32 true (b - a) c) (round binary32 false (a - b) c) ≡ round binary32 false (a - b) c
    go true k = absurd (omega (arith, k tt))
    go false k = refl

-- with n = t × d + r, n / d less r / d is t
taken : (n d t r k : ℕ) → t * d + r ≡ n → (n * k - r * k) * 1 ≡ t * (d * k)
taken n d t r k h =
    let e : n * k ≡ t * d * k + r * k = ap (λ (z : ℕ). z * k) (sym h) ∙ add-mul (t * d) r k in
    let g : t * d * k ≡ t * (d * k) = mul_assoc t d k in
    omega arith

-- ± t, where the sign is lost at 0 alone
sign_kept : (s : Bool) (a b t : ℕ) → (b < a → 0 < t) → (a ≤ b → t ≡ 0) → (left s a b ≡ true → 0 < t) × (signed (left s a b) t ≡ signed s t)
sign_kept false a b t f g = (λ e. absurd (true≢false (sym e)), refl)
sign_kept true a b t f g = go (ltb b a) (ltb-true b a) (ltb-false b a)
  where
    go : (z : Bool) → (z ≡ true → b < a) → (z ≡ false → a ≤ b) → (z ≡ true → 0 < t) × (signed z t ≡ signed true t)
    go true h k = (λ e. f (h e), refl)
    go false h k = (λ e. absurd (true≢false (sym e)), rw (g (k refl)))

-- a whole number of at most 24 digits, not −0, is cast exactly
cast_of : (w : Float) (s : Bool) (t : ℕ) → t < 2 ^ 24 → (s ≡ true → 0 < t) → HasValue w s t 1
    → T (in_signed binary32 31 w) × (to_signed 31 w ≡ signed s t)
unfolding in_signed whole to_signed
cast_of nan s t h p v = absurd v
cast_of (inf u) s t h p v = absurd v
cast_of (fin u m e) s t h p v = go u v.0
  where
    product : m * up e ≡ t * down e
    product = sym (mul-one (m * up e)) ∙ v.1

    quotient : m * up e / down e ≡ t
    quotient = ap (λ (z : ℕ). z / down e) product ∙ mul-div_cancel t (down_pos e)

    rest : m * up e % down e ≡ 0
    rest = ap (λ (z : ℕ). z % down e) product ∙ mul-mod_left t (down e)

    kept : (k : ℕ) → t ≤ k → min (m * up e / down e) k ≡ t
    kept k l = rw quotient (omega arith)

    some : 0 < t → eqb m 0 ≡ false
    some l = ne_eqb m 0 (λ z. lt_irrefl 0 (subst (λ (y : ℕ). 0 < y) (sym product ∙ ap (λ (y : ℕ). y * up e) z ∙ zero-mul (up e)) (mul-pos l (down_pos e))))

    go : (u : Bool) → u ≡ s → T (in_signed binary32 31 (fin u m e)) × (to_signed 31 (fin u m e) ≡ signed s t)
    go true q = (
      rw (rest, quotient, le-leb t (2 ^ 24) (omega arith), some (p (sym q)), le-leb t (2 ^ 31) (omega arith)) tt,
      ap (λ (k : ℕ). neg_ℤ (pos k)) (kept (2 ^ 31) (omega arith)) ∙ ap (λ (z : Bool). signed z t) q,
    )
    go false q = (
      rw (rest, quotient, le-leb t (2 ^ 24) (omega arith), lt-ltb t (2 ^ 31) (omega arith)) tt,
      ap pos (kept (2 ^ 31 - 1) (omega arith)) ∙ ap (λ (z : Bool). signed z t) q,
    )

module _ (s : Bool) (m : ℕ) (e : ℤ) (n : ℕ) (g : ℤ) where
  abbrev A : ℕ
  A = m * up e

  abbrev D : ℕ
  D = down e

  abbrev K : ℕ
  K = down g

  whole_is : n * up g * D ≡ A % D * K → sub binary32 (fin s m e) (fin s n g) ≡ round binary32 (left s (A * K) (A % D * K)) (A / D) 1
  unfolding sub add neg
  whole_is v =
      ap (λ (z : ℕ). sum binary32 s (A * K) (not s) z (D * K)) v
      ∙ less_is s (A * K) (A % D * K) (D * K) (mul-le-mul_right K (mod-le A D))
      ∙ round_same binary32 (left s (A * K) (A % D * K)) (A * K - A % D * K) (D * K) (A / D) 1 (mul-pos (down_pos e) (down_pos g)) (lit< tt)
      (taken A D (A / D) (A % D) K (div-add-mod' A D))

  sign_is : (left s (A * K) (A % D * K) ≡ true → 0 < A / D) × (signed (left s (A * K) (A % D * K)) (A / D) ≡ signed s (A / D))
  sign_is =
      sign_kept s (A * K) (A % D * K) (A / D)
      (λ h. first_pos (A / D) D (omega (arith, div-add-mod' A D, lt_of_mul-lt-mul_right K h)))
      (λ h.
      omega (
        arith,
        lt_of_mul-lt-mul_right D {m = A / D} {n = 1}
            (omega (arith, down_pos e, div-add-mod' A D, le_of_mul-le-mul_right h (down_pos g))),
      ))

  pub whole_cast : HasValue (fin s n g) s (A % D) D → A / D < 2 ^ 24
      → T (in_signed binary32 31 (sub binary32 (fin s m e) (fin s n g))) × (to_signed 31 (sub binary32 (fin s m e) (fin s n g)) ≡ signed s (A / D))
  whole_cast v small =
      let z = left s (A * K) (A % D * K) in
      let t = A / D in
      let exact = round_exact binary32 z t 1 t 149 (lit< tt) small (lt_of_lt_of_le (shl_lt 24 149 small) (lit≤ tt)) (sym (mul-one (t * 2 ^ 149))) in
      let c = cast_of (round binary32 z t 1) z t small sign_is.0 exact in
      rw (whole_is v.1) (c.0, c.1 ∙ sign_is.1)

-- whatever float the fraction is
pub whole_less : (s : Bool) (m : ℕ) (e : ℤ) (y : Float) → HasValue y s (m * up e % down e) (down e) → m * up e / down e < 2 ^ 24
    → T (in_signed binary32 31 (sub binary32 (fin s m e) y)) × (to_signed 31 (sub binary32 (fin s m e) y) ≡ signed s (m * up e / down e))
whole_less s m e nan v small = absurd v
whole_less s m e (inf u) v small = absurd v
whole_less s m e (fin u n g) v small = rw v.0 (whole_cast s m e n g (refl, v.1) small)
