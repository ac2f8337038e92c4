-- An operation hands a check's refusal on: its answer is then that refusal, and its buffers stay as they were.
use Prim.Native.Nat.{ℕ, zero, suc, ◌≤◌, ◌<◌}
use mathlib.Core.Bool.{Bool, true, cond}
use mathlib.Core.List.{List, ◌++◌}
use mathlib.Core.Path.{◌≡◌, refl, sym, ap, ◌∙◌}
use native.Mathlib.Omega.{arith}
use Rattle.std.specs.Prelude.{Result, Ok, Err, IsOk, IsErrAnd}
use Rattle.std.proofs.lemmas.Result.{err_from_is_err_and}
use Rattle.refusal.specs.Refusal.{Answer, given, refused_at, turned_away, answer, unless_refused, number_of, number, place, is_refused, answered, first_met}
use Rattle.refusal.specs.declared.refusal.Refusal.{Refusal}
use Rattle.refusal.specs.declared.refusal.Refusal.TheVariants.{Ends, WindowSize, WindowPlace, RasterLength, ListLength, Rows, RunCount, Run, Input, File, Table, Record, NotFinite, PenRange}
use Rattle.refusal.proofs.Conditions.{append_met}

-- a refusal's number has at most two digits, and its answer, whatever the values would be, is that number and its place
pub record Turned (r : Refusal) : Type 1 where
  pub some : 1 ≤ number r
  pub few : number r < 100
  pub form : (A : Type 0) → turned_away {A = A} r ≡ refused_at (number r) (place r)

pub turned : (r : Refusal) → Turned r
turned Ends = record { some = omega arith; few = omega arith; form = λ A. refl }
turned WindowSize = record { some = omega arith; few = omega arith; form = λ A. refl }
turned WindowPlace = record { some = omega arith; few = omega arith; form = λ A. refl }
turned RasterLength = record { some = omega arith; few = omega arith; form = λ A. refl }
turned ListLength = record { some = omega arith; few = omega arith; form = λ A. refl }
turned Rows = record { some = omega arith; few = omega arith; form = λ A. refl }
turned RunCount = record { some = omega arith; few = omega arith; form = λ A. refl }
turned (Run at) = record { some = omega arith; few = omega arith; form = λ A. refl }
turned Input = record { some = omega arith; few = omega arith; form = λ A. refl }
turned File = record { some = omega arith; few = omega arith; form = λ A. refl }
turned Table = record { some = omega arith; few = omega arith; form = λ A. refl }
turned Record = record { some = omega arith; few = omega arith; form = λ A. refl }
turned NotFinite = record { some = omega arith; few = omega arith; form = λ A. refl }
turned PenRange = record { some = omega arith; few = omega arith; form = λ A. refl }

-- the same answer with another value in the place of a given one
instead : {A B : Type 0} → B → Answer A → Answer B
instead b (given a) = given b
instead b (refused_at n place) = refused_at n place

module _ {B : Type 0} (b : B) where
  instead_turned : (A : Type 0) (r : Refusal) → instead b (turned_away {A = A} r) ≡ turned_away r
  unfolding instead
  instead_turned A r = ap (instead b) ((turned r).form A) ∙ sym ((turned r).form B)

  instead_answer : {A : Type 0} (n : ℕ) (a : A) → instead b (answer n a) ≡ answer n b
  unfolding instead
  instead_answer zero a = refl
  instead_answer (suc n) a = refl

-- so what is said of this form is said of every refusal's answer
pub turned_by : {A B : Type 0} (f : Answer A → B) (b : B) (r : Refusal) → f (refused_at (number r) (place r)) ≡ b → f (turned_away r) ≡ b
turned_by {A} f b r q = ap f ((turned r).form A) ∙ q

module _ (A : Type 0) (r : Refusal) where
  pub number_is : number_of (turned_away {A = A} r) ≡ number r
  number_is = turned_by number_of (number r) r refl

  turned_refused : is_refused (turned_away {A = A} r) ≡ true
  turned_refused = turned_by is_refused true r refl

-- so it is never a given one
not_given : (r : Refusal) → turned_away {A = Unit} r ≡ given tt → ⊥
not_given r e =
    let z : ◌≡◌ {A = ℕ} 0 1 = ap (λ (t : Bool). cond t 0 1) (sym (turned_refused Unit r) ∙ ap is_refused e) in omega arith

-- what a test that passed says of the number that it tested
pub passed : (n : ℕ) (u : Unit) → ◌≡◌ {A = Answer Unit} (given u) (answer n tt) → n ≡ 0
passed zero u e = refl
passed (suc n) u e = absurd (omega (arith, ap number_of e))

-- an operation that answers the check's refusal: its answer, and a buffer that it does not touch
module _ {A : Type 0} (r : Refusal) where
  pub handed_on : (n : ℕ) (a : A) → ◌≡◌ {A = Answer Unit} (turned_away r) (answer n tt) → turned_away r ≡ answer n a
  handed_on n a e = sym (instead_turned a Unit r) ∙ ap (instead a) e ∙ instead_answer a n tt

  -- and back: what an operation's refusal says of the number that it tested
  pub handed_back : (n : ℕ) (a : A) → turned_away r ≡ answer n a → ◌≡◌ {A = Answer Unit} (turned_away r) (answer n tt)
  handed_back n a e = sym (instead_turned tt A r) ∙ ap (instead tt) e ∙ instead_answer tt n a

  pub kept : (n : ℕ) (work start : A) → ◌≡◌ {A = Answer Unit} (turned_away r) (answer n tt) → start ≡ unless_refused n work start
  kept zero work start e = absurd (not_given r e)
  kept (suc n) work start e = refl

-- the number of a longer list of conditions is then the same
pub same_number : (r : Refusal) (cs ds : List (ℕ × Bool)) → ◌≡◌ {A = Answer Unit} (turned_away r) (answer (first_met cs) tt)
    → first_met (cs ++ ds) ≡ first_met cs
same_number r cs ds e = go (first_met cs) refl e
  where
    go : (n : ℕ) → first_met cs ≡ n → ◌≡◌ {A = Answer Unit} (turned_away r) (answer n tt) → first_met (cs ++ ds) ≡ first_met cs
    go zero q f = absurd (not_given r f)
    go (suc n) q f = append_met n cs ds q ∙ sym q

-- so an operation with further conditions answers it too
pub handed_more : {A : Type 0} (r : Refusal) (cs ds : List (ℕ × Bool)) (a : A) → ◌≡◌ {A = Answer Unit} (turned_away r) (answer (first_met cs) tt)
    → turned_away r ≡ answer (first_met (cs ++ ds)) a
handed_more r cs ds a e = handed_on r (first_met cs) a e ∙ ap (λ (n : ℕ). answer n a) (sym (same_number r cs ds e))

-- what `?` hands on from a test: the operation's result is that refusal
module _ {A : Type 0} (x : Result A Refusal) (r : Refusal) (is : IsErrAnd x (λ s. s ≡ r)) where
  pub err_is : answered x ≡ turned_away r
  err_is = let p = err_from_is_err_and x is in rw (p.1, p.2)

  -- its answer, by the number of the first of some conditions, with further ones behind them
  pub handed_err_more : (cs ds : List (ℕ × Bool)) (a : A) → ◌≡◌ {A = Answer Unit} (turned_away r) (answer (first_met cs) tt)
      → answered x ≡ answer (first_met (cs ++ ds)) a
  handed_err_more cs ds a e = err_is ∙ handed_more r cs ds a e

-- what an operation's values say of the number that it tested
module _ {A : Type 0} where
  value : A → Answer A → A
  value other (given a) = a
  value other (refused_at n place) = other

  pub number-answer : (n : ℕ) (b : A) → number_of (answer n b) ≡ n
  number-answer zero b = refl
  number-answer (suc n) b = refl

  pub given_by : (n : ℕ) (a b : A) → given a ≡ answer n b → (n ≡ 0) × (a ≡ b)
  unfolding value
  given_by zero a b e = (refl, ap (value a) e)
  given_by (suc n) a b e = absurd (omega (arith, ap number_of e))

  -- an operation that is not refused answers its values
  pub ok_is : (x : Result A Refusal) (a : A) → answered x ≡ given a → x ≡ Ok a
  unfolding value
  ok_is (Ok b) a e = ap Ok (ap (value b) e)
  ok_is (Err r) a e = absurd (let z : ◌≡◌ {A = ℕ} 0 1 = ap (λ (t : Bool). cond t 0 1) (sym (turned_refused A r) ∙ ap is_refused e) in omega arith)

  pub ok_by : (x : Result A Refusal) (a : A) → answered x ≡ given a → IsOk x
  ok_by x a e = rw (ok_is x a e) refl
