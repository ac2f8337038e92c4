-- A text is another with a newline behind it, or it ends in none.
use Rattle.std.proofs.Common.{◌≡◌, ◌≢◌, ℕ, List, [], ◌∷◌, ◌++◌, Option, None, Some, refl, sym, ap}
use borrow.Author.Tests.{ne_eqb}
use denote.Ref.{Bor}
use Rattle.std.specs.Prelude.{MatchOption, unwrap_or}
use Rattle.lineruns_text.specs.Reading.{unended}

ends : (text : List ℕ) → unended (text ++ (10 ∷ [])) ≡ text
unfolding unended
ends [] = refl
ends (b ∷ []) = refl
ends (b ∷ c ∷ bs) = ap (λ (r : List ℕ). b ∷ r) (ends (c ∷ bs))

plain : (text : List ℕ) → ((front : List ℕ) → text ≢ front ++ (10 ∷ [])) → unended text ≡ text
unfolding unended
plain [] h = refl
plain (b ∷ []) h = rw (ne_eqb b 10 (λ e. h [] (ap (λ (x : ℕ). x ∷ []) e)))
plain (b ∷ c ∷ bs) h = ap (λ (r : List ℕ). b ∷ r) (plain (c ∷ bs) (λ front e. h (b ∷ front) (ap (λ (r : List ℕ). b ∷ r) e)))

-- what is left where a newline is stripped from the end, or else the text itself
pub unwrapped : (text : Bor (List ℕ)) (r : Option (Bor (List ℕ))) → MatchOption r ((front : List ℕ) → text.now ≢ front ++ (10 ∷ [])) (λ x. text.now ≡ x.now ++ (10 ∷ []))
    → (unwrap_or r text).now ≡ unended text.now
unwrapped text None h = sym (plain text.now h)
unwrapped text (Some x) h = sym (rw h (ends x.now))
