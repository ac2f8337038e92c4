-- Four words that are numbers make the line; with a word that is none, or with fewer or more words, nothing does.
use Rattle.std.proofs.Common.{◌≡◌, ℕ, ℤ, List, [], ◌∷◌, Option, None, Some, refl}
use Rattle.lineruns_text.specs.Reading.{number, ends_of, four}

-- a word that is no number
second_none : (a c d : Option ℤ) → ends_of a None c d ≡ None
second_none None c d = refl
second_none (Some a) c d = refl

third_none : (a b d : Option ℤ) → ends_of a b None d ≡ None
third_none None b d = refl
third_none (Some a) None d = refl
third_none (Some a) (Some b) d = refl

fourth_none : (a b c : Option ℤ) → ends_of a b c None ≡ None
fourth_none None b c = refl
fourth_none (Some a) None c = refl
fourth_none (Some a) (Some b) None = refl
fourth_none (Some a) (Some b) (Some c) = refl

module _ (a : List ℕ) where
  pub bad_first : (ws : List (List ℕ)) → number a ≡ None → four (a ∷ ws) ≡ None
  unfolding four
  bad_first [] h = refl
  bad_first (b ∷ []) h = refl
  bad_first (b ∷ c ∷ []) h = refl
  bad_first (b ∷ c ∷ d ∷ []) h = rw h
  bad_first (b ∷ c ∷ d ∷ e ∷ ws) h = refl

  pub bad_second : (b : List ℕ) (ws : List (List ℕ)) → number b ≡ None → four (a ∷ b ∷ ws) ≡ None
  unfolding four
  bad_second b [] h = refl
  bad_second b (c ∷ []) h = refl
  bad_second b (c ∷ d ∷ []) h = rw h (second_none (number a) (number c) (number d))
  bad_second b (c ∷ d ∷ e ∷ ws) h = refl

  pub bad_third : (b c : List ℕ) (ws : List (List ℕ)) → number c ≡ None → four (a ∷ b ∷ c ∷ ws) ≡ None
  unfolding four
  bad_third b c [] h = refl
  bad_third b c (d ∷ []) h = rw h (third_none (number a) (number b) (number d))
  bad_third b c (d ∷ e ∷ ws) h = refl

  pub bad_fourth : (b c d : List ℕ) (ws : List (List ℕ)) → number d ≡ None → four (a ∷ b ∷ c ∷ d ∷ ws) ≡ None
  unfolding four
  bad_fourth b c d [] h = rw h (fourth_none (number a) (number b) (number c))
  bad_fourth b c d (e ∷ ws) h = refl

pub all_four : (a b c d : List ℕ) (x0 y0 x1 y1 : ℤ) → number a ≡ Some x0 → number b ≡ Some y0 → number c ≡ Some x1 → number d ≡ Some y1
    → four (a ∷ b ∷ c ∷ d ∷ []) ≡ Some (record { x0 = x0; y0 = y0; x1 = x1; y1 = y1 })
unfolding four
all_four a b c d x0 y0 x1 y1 e f g h = rw (e, f, g, h)
