-- A number that is printed and read again is the same: each digit written puts back what dividing by ten took away.
use Rattle.std.proofs.Common.{◌≡◌, ℕ, suc, ◌+◌, ◌-◌, ◌*◌, ◌/◌, ◌%◌, ◌≤◌, ◌<◌, Bool, true, false, cond, Option, None, Some, List, [], ◌∷◌, ◌++◌, ℤ, pos, negsuc, ap, ◌∙◌, arith, get_or}
use Rattle.std.specs.Fmt as std
use Rattle.std.proofs.lemmas.Fmt.{decimal_by_steps, decimal_nonempty, length-decimal-le}
use lib.IntN.{nat_abs}
use borrow.Author.Tests.{le-leb}
use Rattle.lineruns_text.specs.Reading.{is_digit, value_from, digits, number, positive, negative}
use Rattle.lineruns_text.specs.Writing.{signed}
use Rattle.lineruns_text.proofs.Numbers.{value_low, digits_value, number_minus, number_plain}
use Rattle.lineruns_text.proofs.Printed.{decimal_is}

-- digits after digits
digit_or_none : (t : Bool) (p q r : Option ℕ) (k : ℕ) → (p ≡ Some k → q ≡ r) → cond t p None ≡ Some k → cond t q None ≡ r
digit_or_none true p q r k f e = f e
digit_or_none false p q r k f e = absurd (let z : ◌≡◌ {A = ℕ} 0 1 = cc in omega arith)

value_append : (m : ℕ) (xs ys : List ℕ) (k : ℕ) → value_from m xs ≡ Some k → value_from m (xs ++ ys) ≡ value_from k ys
unfolding value_from
value_append m [] ys k e = let same : m ≡ k = cc in ap (λ (n : ℕ). value_from n ys) same
value_append m (b ∷ xs) ys k e =
    digit_or_none (is_digit b) _ _ (value_from k ys) k (value_append (10 * m + (b - 48)) xs ys k) e

-- one digit
value_one : (m d : ℕ) → d < 10 → value_from m ((48 + d) ∷ []) ≡ Some (10 * m + d)
unfolding value_from
value_one m d h =
    let digit : 48 + d - 48 ≡ d = omega arith in
    rw (le-leb 48 (48 + d) (omega arith), le-leb (48 + d) 57 (omega arith), digit)

last_digit : (n : ℕ) (ds : List ℕ) → 10 ≤ n → value_from 0 ds ≡ Some (n / 10) → value_from 0 (ds ++ ((48 + n % 10) ∷ [])) ≡ Some n
last_digit n ds l e =
    let whole : 10 * (n / 10) + n % 10 ≡ n = omega arith in
    value_append 0 ds ((48 + n % 10) ∷ []) (n / 10) e ∙ value_one (n / 10) (n % 10) (omega arith) ∙ ap Some whole

value_decimal : (n : ℕ) → n < 1000000 → value_from 0 (std.decimal n) ≡ Some n
value_decimal n h = decimal_by_steps (λ k ds. value_from 0 ds ≡ Some k) (λ d l. value_one 0 d l ∙ ap Some (omega arith)) last_digit n (omega arith)

digits_decimal : (n : ℕ) → n < 1000000 → digits (std.decimal n) ≡ Some n
digits_decimal n h =
    digits_value (std.decimal n) (decimal_nonempty n (omega arith)) (length-decimal-le 6 n (omega arith) (omega arith) (omega arith)) ∙ value_decimal n h

no_minus : (n : ℕ) → n < 1000000 → get_or (std.decimal n) 0 0 ≡ 45 → ⊥
no_minus n h e =
    let low = value_low 0 0 (std.decimal n) (decimal_nonempty n (omega arith)) (omega arith) in
    let same = value_decimal n h in
    let z : ◌≡◌ {A = ℕ} 0 1 = cc in omega arith

-- every number of at most 6 digits is read back as it was printed
pub number-signed : (z : ℤ) → nat_abs z ≤ 999999 → number (signed z) ≡ Some z
unfolding signed
number-signed (pos n) h =
    rw (decimal_is n (omega arith))
    (number_plain (std.decimal n) (λ rest e. no_minus n (omega arith) (ap (λ (w : List ℕ). get_or w 0 0) e)) ∙ ap positive (digits_decimal n (omega arith)))
number-signed (negsuc n) h =
    rw (decimal_is (suc n) (omega arith))
    (number_minus (std.decimal (suc n)) ∙ ap negative (digits_decimal (suc n) (omega arith)))
