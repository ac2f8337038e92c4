-- A number is read digit by digit: the value so far and the bytes that are left make the whole.
use Prim.Native.Nat.{ℕ, ◌+◌, ◌-◌, ◌*◌, ◌≤◌, ◌<◌}
use mathlib.Core.Path.{◌≡◌, refl, ap, ◌∙◌}
use mathlib.Core.Logic.{◌≢◌}
use mathlib.Core.Bool.{cond}
use mathlib.Core.List.{List, [], ◌∷◌}
use Rattle.std.specs.Prelude.{Option, None, Some}
use lib.ListN.{length, get_or, drop, drop_of_length-le}
use lib.Seq.{drop-cons}
use borrow.Author.Tests.{le-leb, lt-leb, ne_eqb}
use Rattle.std.proofs.lemmas.List.{at_drop_more}
use Rattle.std.specs.Prelude.{MatchOption}
use denote.Ref.{Bor}
use Rattle.lineruns_text.specs.Reading.{is_digit, value_from, digits, number, positive, negative}

pub value_low : (value i : ℕ) (text : List ℕ) → i < length text → get_or text i 0 < 48 → value_from value (drop i text) ≡ None
unfolding value_from
value_low value i text inside low = rw (drop-cons text i 0 inside, lt-leb 48 (get_or text i 0) low)

pub value_end : (value i : ℕ) (text : List ℕ) → length text ≤ i → value_from value (drop i text) ≡ Some value
unfolding value_from
value_end value i text h = rw (drop_of_length-le text h)

-- one digit more
pub value_step : (value i : ℕ) (text : List ℕ) → i < length text → value_from value (drop i text) ≡ cond (is_digit (get_or text i 0)) (value_from (10 * value + (get_or text i 0 - 48)) (drop (i + 1) text)) None
unfolding value_from
value_step value i text h = at_drop_more (value_from value) text i 0 h

pub digits_value : (text : List ℕ) → 1 ≤ length text → length text ≤ 6 → digits text ≡ value_from 0 text
unfolding digits
digits_value text l h = rw (le-leb 1 (length text) l, le-leb (length text) 6 h)

pub number_minus : (rest : List ℕ) → number (45 ∷ rest) ≡ negative (digits rest)
unfolding number
number_minus rest = refl

pub number_plain : (word : List ℕ) → ((rest : List ℕ) → word ≢ 45 ∷ rest) → number word ≡ positive (digits word)
unfolding number digits
number_plain [] h = refl
number_plain (b ∷ bs) h = rw (ne_eqb b 45 (λ e. h bs (ap (λ (x : ℕ). x ∷ bs) e)))

-- a word from which a minus can be stripped, or none
abbrev pub Told : List ℕ → Option (Bor (List ℕ)) → Type 0
Told word r = MatchOption r (number word ≡ positive (digits word)) (λ x. number word ≡ negative (digits x.now))

pub number_told : (word : List ℕ) (r : Option (Bor (List ℕ))) → MatchOption r ((rest : List ℕ) → word ≢ 45 ∷ rest) (λ x. word ≡ 45 ∷ x.now) → Told word r
number_told word None h = number_plain word h
number_told word (Some x) h = ap number h ∙ number_minus x.now
