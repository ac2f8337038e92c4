-- Facts about Bool that tests turn on: a test is taken apart into what it says, and put together again.
use Prim.Native.Nat.{ℕ, ◌≤◌, ◌<◌}
use mathlib.Core.Path.{◌≡◌, refl, sym, ap, ◌∙◌, subst}
use mathlib.Core.Bool.{Bool, true, false, ◌&&◌, ◌||◌}
use mathlib.Core.Logic.{◌⊎◌, inl, inr}
use lib.Dec.{T, ltb, eqb, leb}
use native.Mathlib.Omega.{arith}
use borrow.Author.Tests.{ltb-true, lt-ltb, eqb-true, eq-eqb, leb-true, le-leb}
use Rattle.counting.specs.Count.{one}

pub tell : (t : Bool) → (t ≡ true) ⊎ (t ≡ false)
tell true = inl refl
tell false = inr refl

pub clash : (t : Bool) → t ≡ false → t ≡ true → ⊥
clash t p q = let z : ◌≡◌ {A = ℕ} 0 1 = ap one (sym p ∙ q) in omega arith

pub never : (a : Bool) → (a ≡ true → ⊥) → a ≡ false
never true f = absurd (f refl)
never false f = refl

-- a test as a type, for the library's laws that speak of tests so
pub to_T : (t : Bool) → t ≡ true → T t
to_T t e = subst T (sym e) tt

pub of_T : (t : Bool) → T t → t ≡ true
of_T true h = refl
of_T false h = absurd h

pub bool_iff : (a b : Bool) → (a ≡ true → b ≡ true) → (b ≡ true → a ≡ true) → a ≡ b
bool_iff true b f g = sym (f refl)
bool_iff false true f g = g refl
bool_iff false false f g = refl

pub and_both : (a b : Bool) → (a && b) ≡ true → (a ≡ true) × (b ≡ true)
and_both true b e = (refl, e)
and_both false true e = (e, refl)
and_both false false e = (e, e)

pub both_and : (a b : Bool) → a ≡ true → b ≡ true → (a && b) ≡ true
both_and true b p q = q
both_and false b p q = p

pub or_neither : (a b : Bool) → (a || b) ≡ false → (a ≡ false) × (b ≡ false)
or_neither true true e = (e, e)
or_neither true false e = (e, refl)
or_neither false b e = (refl, e)

pub neither_or : (a b : Bool) → a ≡ false → b ≡ false → (a || b) ≡ false
neither_or true b p q = p
neither_or false b p q = q

pub or_left : (a b : Bool) → b ≡ false → (a || b) ≡ true → a ≡ true
or_left true b p q = refl
or_left false true p q = sym p
or_left false false p q = q

-- two tests of order agree where what they say does
pub ltb_iff : (a b c d : ℕ) → (a < b → c < d) → (c < d → a < b) → ltb a b ≡ ltb c d
ltb_iff a b c d f g =
    bool_iff (ltb a b) (ltb c d) (λ t. lt-ltb c d (f (ltb-true a b t))) (λ t. lt-ltb a b (g (ltb-true c d t)))

pub leb_iff : (a b c d : ℕ) → (a ≤ b → c ≤ d) → (c ≤ d → a ≤ b) → leb a b ≡ leb c d
leb_iff a b c d f g =
    bool_iff (leb a b) (leb c d) (λ t. le-leb c d (f (leb-true a b t))) (λ t. le-leb a b (g (leb-true c d t)))

pub eqb_iff : (a b c d : ℕ) → (a ≡ b → c ≡ d) → (c ≡ d → a ≡ b) → eqb a b ≡ eqb c d
eqb_iff a b c d f g =
    bool_iff (eqb a b) (eqb c d) (λ t. eq-eqb c d (f (eqb-true a b t))) (λ t. eq-eqb a b (g (eqb-true c d t)))
