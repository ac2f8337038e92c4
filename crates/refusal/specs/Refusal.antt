-- Document 01, 'Turned away', with the numbers that document 02 adds: the numbers of the refusals, and an operation's answer in
-- the paper's terms. Assumes nothing.
use Rattle.std.specs.Prelude.{ℕ, zero, suc, ◌≤◌, Bool, true, false, cond, List, [], ◌∷◌, Result, Ok, Err}
use Rattle.refusal.specs.declared.refusal.Refusal.{Refusal}
use Rattle.refusal.specs.declared.refusal.Refusal.TheVariants.{Ends, WindowSize, WindowPlace, RasterLength, ListLength, Rows, RunCount, Run, Input, File, Table, Record, NotFinite, PenRange}

-- an operation's answer: the values that it gives, or a refusal by its number and a place, which is that of a run for 8 and 0 for any
-- other
pub data Answer (A : Type 0) : Type 0 where
  given : A → Answer A
  refused_at : ℕ → ℕ → Answer A

-- a refusal that has no place
abbrev pub refused : {A : Type 0} → ℕ → Answer A
refused n = refused_at n 0

-- each refusal as an answer
abbrev pub turned_away : {A : Type 0} → Refusal → Answer A
turned_away Ends = refused 1
turned_away WindowSize = refused 2
turned_away WindowPlace = refused 3
turned_away RasterLength = refused 4
turned_away ListLength = refused 5
turned_away Rows = refused 6
turned_away RunCount = refused 7
turned_away (Run place) = refused_at 8 place
turned_away Input = refused 9
turned_away File = refused 10
turned_away Table = refused 11
turned_away Record = refused 12
turned_away NotFinite = refused 13
turned_away PenRange = refused 14

-- what an operation answers, in the paper's terms: its values, or the refusal. A test answers no values.
abbrev pub answered : {A : Type 0} → Result A Refusal → Answer A
answered (Ok a) = given a
answered (Err r) = turned_away r

-- an answer's number, 0 where nothing is refused
abbrev pub number_of : {A : Type 0} → Answer A → ℕ
number_of (given a) = 0
number_of (refused_at n place) = n

abbrev pub number : Refusal → ℕ
number r = number_of (turned_away {A = Unit} r)

-- its place, 0 where it has none
abbrev pub place_of : {A : Type 0} → Answer A → ℕ
place_of (given a) = 0
place_of (refused_at n place) = place

abbrev pub place : Refusal → ℕ
place r = place_of (turned_away {A = Unit} r)

-- an answer is a refusal
abbrev pub is_refused : {A : Type 0} → Answer A → Bool
is_refused (given a) = false
is_refused (refused_at n place) = true

-- of an operation's conditions, in their order and each with its number, the number of the first that is met; 0 where none is
unfoldable pub first_met : List (ℕ × Bool) → ℕ
first_met [] = 0
first_met (c ∷ cs) = cond c.1 c.0 (first_met cs)

-- every condition of a list has a number
abbrev pub Numbered : List (ℕ × Bool) → Type 0
Numbered [] = Unit
Numbered (c ∷ cs) = (1 ≤ c.0) × Numbered cs

-- what an operation answers, by that number: the values where no condition is met
abbrev pub answer : {A : Type 0} → ℕ → A → Answer A
answer zero a = given a
answer (suc n) a = refused (suc n)

-- by that number: what an operation does where no condition is met, else the other, as a lent buffer left as it was
abbrev pub unless_refused : {A : Type 0} → ℕ → A → A → A
unless_refused zero work other = work
unless_refused (suc n) work other = other
