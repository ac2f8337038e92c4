-- What std prints of a number is the number in decimal, so each line is the texts that are appended, one after the other.
use Rattle.std.proofs.Common.{◌≡◌, true, false, ℕ, suc, ◌<◌, ◌^◌, List, [], ◌∷◌, ◌++◌, ℤ, pos, negsuc, arith, rules, refl, ap, append_assoc}
use Rattle.std.specs.Int.Signed.{lt_z}
use lib.IntN.{nat_abs}
use lib.Dec.{ltb}
use borrow.Author.Tests.{le-ltb}
use Rattle.counting.proofs.Boolean.{clash}
use Rattle.std.specs.Fmt as std
use Rattle.std.proofs.lemmas.Fmt.{AppendsLastDigit, decimal_from_appends, length-decimal-le}
use mir.Syntax.{w32}
use mir.Val.{SFits}
use Rattle.lineruns_text.specs.Writing.{decimal_up_to, decimal, signed, axis_text, refused_line, run_line}

appends : AppendsLastDigit decimal_up_to
unfolding decimal_up_to
appends = search rules

pub decimal_is : (n : ℕ) → n < 2 ^ 32 → decimal n ≡ std.decimal n
unfolding decimal
decimal_is n h = decimal_from_appends decimal_up_to appends 19 n (omega arith) (length-decimal-le 19 n (omega arith) (omega arith) (omega arith))

signed_is : (z : ℤ) → SFits w32 z → signed z ≡ std.signed_decimal z
unfolding signed
signed_is (pos n) f = decimal_is n (omega (arith, f.sfits))
signed_is (negsuc n) f = ap (λ (ds : List ℕ). 45 ∷ ds) (decimal_is (suc n) (omega (arith, f.sfits)))

-- a number and the end of the line
abbrev pub ended : ℕ → List ℕ
ended n = std.decimal n ++ (10 ∷ [])

abbrev pub refused_word : List ℕ
refused_word = 114 ∷ 101 ∷ 102 ∷ 117 ∷ 115 ∷ 101 ∷ 100 ∷ 32 ∷ []

abbrev pub axis_word : List ℕ
axis_word = 97 ∷ 120 ∷ 105 ∷ 115 ∷ 32 ∷ []

abbrev pub runs_word : List ℕ
runs_word = 32 ∷ 114 ∷ 117 ∷ 110 ∷ 115 ∷ 32 ∷ []

pub refused_is : (n : ℕ) → n < 2 ^ 32 → refused_line n ≡ refused_word ++ ended n
unfolding refused_line
refused_is n h = rw (decimal_is n h)

pub axis_is : (letter n : ℕ) → n < 2 ^ 32 → axis_text letter n ≡ axis_word ++ ((letter ∷ []) ++ (runs_word ++ ended n))
unfolding axis_text
axis_is letter n h = rw (decimal_is n h)

pub run_is : (across lowest : ℤ) (pixels : ℕ) → SFits w32 across → SFits w32 lowest → pixels < 2 ^ 32
    → run_line (record { across = across; lowest = lowest; pixels = pixels }) ≡ (std.signed_decimal across ++ (32 ∷ [])) ++ ((std.signed_decimal lowest ++ (32 ∷ [])) ++ ended pixels)
unfolding run_line
run_is across lowest pixels a l p = rw (signed_is across a, signed_is lowest l, decimal_is pixels p) (simp append_assoc)

-- a number is its sign and its digits
pub signed_below : (z : ℤ) → lt_z z (pos 0) ≡ true → std.signed_decimal z ≡ (45 ∷ []) ++ std.decimal (nat_abs z)
signed_below (pos n) e = absurd (clash (lt_z (pos n) (pos 0)) (let none : ltb n 0 ≡ false = le-ltb n 0 (omega arith) in none) e)
signed_below (negsuc n) e = refl

pub signed_natural : (z : ℤ) → lt_z z (pos 0) ≡ false → std.signed_decimal z ≡ std.decimal (nat_abs z)
signed_natural (pos n) e = refl
signed_natural (negsuc n) e = absurd (clash (lt_z (negsuc n) (pos 0)) e refl)
