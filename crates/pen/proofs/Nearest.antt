-- The whole part of x and its fraction, which has the sign of x, give the nearest whole number: the fraction is held against −1/2
-- and 1/2, over natural numbers.
use Prim.Native.Nat.{ℕ, ◌+◌, ◌*◌, ◌/◌, ◌%◌, ◌^◌, ◌<◌}
use mathlib.Core.Path.{◌≡◌, sym, ap, ◌∙◌, subst}
use mathlib.Core.Bool.{Bool, true, false, true≢false}
use native.Mathlib.Nat.{mul_comm, mul-add, div-add-mod', mod-lt, div-lt_iff_lt-mul, lt_of_lt_of_le}
use native.Mathlib.Omega.{arith}
use borrow.Author.Tests.{ltb-true, ltb-false}
use lib.IntN.{ℤ, pos, negsuc, ◌+ℤ◌, ◌-ℤ◌}
use lib.Dec.{T, lit≤, lit<}
use lib.Ieee.{Float, nan, inf, fin, binary32, up, down, below, lt, sub, rem, fits, in_signed, to_signed}
use lib.Ieee.Fits.{down_pos}
use lib.Ieee.Exact.{HasValue}
use lib.Ieee.Scale.{finite}
use mir.Syntax.{w32}
use mir.Val.{SFits}
use Rattle.coordinate.specs.Coordinate.{out_of_range}
use Rattle.coordinate.specs.Nearest.{nearest}
use Rattle.coordinate.proofs.Difference.{Diff, diff_pos, diff_neg, diff_plus, diff_less, diff_mag}
use Rattle.coordinate.proofs.Nearest.{nearest_is, nearest_in}
use Rattle.pen.specs.Worth.{signed, numerator, denominator, nearest_to}
use Rattle.pen.proofs.Compare.{below_half}
use Rattle.pen.proofs.Fraction.{one, fraction_is}
use Rattle.pen.proofs.Whole.{whole_less}

-- 1/2 and −1/2
abbrev pub half : Bool → Float
half t = fin t 1 (negsuc 0)

pub diff_negative : (n : ℕ) → Diff (signed true n) 0 n
diff_negative n = diff_neg (pos n) n 0 (diff_pos n)

-- ± n / d with the fraction f
module _ (n d : ℕ) (D : 0 < d) where
  sum_is : d * (n / d) + n % d ≡ n
  sum_is = ap (λ (z : ℕ). z + n % d) (mul_comm d (n / d)) ∙ div-add-mod' n d

  next : d * (n / d + 1) ≡ d * (n / d) + d
  next = mul-add d (n / d) 1 ∙ omega arith

  module _ (s : Bool) (f : Float) (v : HasValue f s (n % d) d) where
    rounds_down : lt f (half true) ≡ true → signed s (n / d) -ℤ pos 1 ≡ nearest (signed s n) d
    rounds_down e = go s (sym (below_half f s (n % d) d D v true 1) ∙ e)
      where
        go : (s : Bool) → below s (n % d * 2) true (1 * d) ≡ true → signed s (n / d) -ℤ pos 1 ≡ nearest (signed s n) d
        go false h = absurd (true≢false (sym h))
        go true h =
            nearest_is (signed true n) (signed true (n / d) -ℤ pos 1) d 0 n 0 (n / d + 1) D (diff_negative n)
            (diff_less (signed true (n / d)) 0 (n / d) 1 (diff_negative (n / d)))
            (omega (arith, sum_is, next, mod-lt n D))
            (omega (arith, sum_is, next, ltb-true (1 * d) (n % d * 2) h))

    stays : lt f (half true) ≡ false → lt f (half false) ≡ true → signed s (n / d) ≡ nearest (signed s n) d
    stays e g = go s (sym (below_half f s (n % d) d D v true 1) ∙ e) (sym (below_half f s (n % d) d D v false 1) ∙ g)
      where
        go : (s : Bool) → below s (n % d * 2) true (1 * d) ≡ false → below s (n % d * 2) false (1 * d) ≡ true
            → signed s (n / d) ≡ nearest (signed s n) d
        go false h k =
            nearest_is (pos n) (pos (n / d)) d n 0 (n / d) 0 D (diff_pos n) (diff_pos (n / d))
            (omega (arith, sum_is))
            (omega (arith, sum_is, ltb-true (n % d * 2) (1 * d) k))
        go true h k =
            nearest_is (signed true n) (signed true (n / d)) d 0 n 0 (n / d) D (diff_negative n) (diff_negative (n / d))
            (omega (arith, sum_is, ltb-false (1 * d) (n % d * 2) h))
            (omega (arith, sum_is))

    rounds_up : lt f (half false) ≡ false → signed s (n / d) +ℤ pos 1 ≡ nearest (signed s n) d
    rounds_up e = go s (sym (below_half f s (n % d) d D v false 1) ∙ e)
      where
        go : (s : Bool) → below s (n % d * 2) false (1 * d) ≡ false → signed s (n / d) +ℤ pos 1 ≡ nearest (signed s n) d
        go false h =
            nearest_is (pos n) (pos (n / d) +ℤ pos 1) d n 0 (n / d + 1) 0 D (diff_pos n)
            (diff_plus (pos (n / d)) (n / d) 0 1 (diff_pos (n / d)))
            (omega (arith, sum_is, next, ltb-false (n % d * 2) (1 * d) h))
            (omega (arith, sum_is, next, mod-lt n D))
        go true h = absurd (omega (arith, D, ltb-false 0 (n % d * 2 + 1 * d) h))

-- the whole part of a float that rounds to a coordinate has at most 15 digits
small : (s : Bool) (n d : ℕ) → 0 < d → out_of_range (nearest (signed s n) d) ≡ false → n / d < 16385
small true n d D e =
    (div-lt_iff_lt-mul D).1 (omega (arith, (nearest_in (signed true n) d 0 n D (diff_negative n) e).0))
small false n d D e = (div-lt_iff_lt-mul D).1 (omega (arith, (nearest_in (pos n) d n 0 D (diff_pos n) e).1))

-- so it and its neighbours have 32 bits
pub record Room (z : ℤ) : Type 0 where
  pub stays_fit : SFits w32 z
  pub less_fits : SFits w32 (z -ℤ pos 1)
  pub more_fits : SFits w32 (z +ℤ pos 1)

room_of : (z : ℤ) (a b : ℕ) → Diff z a b → a < 16385 → b < 16385 → Room z
room_of z a b d l h =
    record {
      stays_fit = record { sfits = diff_mag z a b (2 ^ 31) d (omega arith) (omega arith) };
      less_fits = record { sfits = diff_mag (z -ℤ pos 1) a (b + 1) (2 ^ 31) (diff_less z a b 1 d) (omega arith) (omega arith) };
      more_fits = record { sfits = diff_mag (z +ℤ pos 1) (a + 1) b (2 ^ 31) (diff_plus z a b 1 d) (omega arith) (omega arith) };
    }

room : (s : Bool) (t : ℕ) → t < 16385 → Room (signed s t)
room true t l = room_of (signed true t) 0 t (diff_negative t) (lit< tt) l
room false t l = room_of (pos t) t 0 (diff_pos t) l (lit< tt)

abbrev pub fraction : Float → Float
fraction x = rem binary32 x one

abbrev pub whole_part : Float → Float
whole_part x = sub binary32 x (fraction x)

-- what the code computes of x
pub record Rounds (x : Float) : Type 0 where
  pub exact : T (in_signed binary32 31 (whole_part x))
  pub fit : Room (to_signed 31 (whole_part x))
  pub lower : lt (fraction x) (half true) ≡ true → to_signed 31 (whole_part x) -ℤ pos 1 ≡ nearest_to x
  pub same : lt (fraction x) (half true) ≡ false → lt (fraction x) (half false) ≡ true → to_signed 31 (whole_part x) ≡ nearest_to x
  pub upper : lt (fraction x) (half false) ≡ false → to_signed 31 (whole_part x) +ℤ pos 1 ≡ nearest_to x

pub rounds : (x : Float) → T (fits binary32 x) → finite x ≡ true → out_of_range (nearest_to x) ≡ false → Rounds x
unfolding nearest_to numerator denominator
rounds nan f g o = absurd (true≢false (sym g))
rounds (inf s) f g o = absurd (true≢false (sym g))
rounds (fin s m e) f g o =
    let n = m * up e in
    let d = down e in
    let v = fraction_is s m e f in
    let l = small s n d (down_pos e) o in
    let w = whole_less s m e (fraction (fin s m e)) v (lt_of_lt_of_le l (lit≤ tt)) in
    record {
      exact = w.0;
      fit = subst Room (sym w.1) (room s (n / d) l);
      lower = λ h. ap (λ (z : ℤ). z -ℤ pos 1) w.1 ∙ rounds_down n d (down_pos e) s (fraction (fin s m e)) v h;
      same = λ h k. w.1 ∙ stays n d (down_pos e) s (fraction (fin s m e)) v h k;
      upper = λ h. ap (λ (z : ℤ). z +ℤ pos 1) w.1 ∙ rounds_up n d (down_pos e) s (fraction (fin s m e)) v h;
    }
