-- Documents 01 and 02: the number of each refusal, which condition decides, and what an operation answers by its number, as statements
-- about the definitions. The proof, by computation, is in proofs/Known.antt. Assumes nothing.
use Rattle.std.specs.Prelude.{ℕ, ◌≡◌, Bool, true, false, List, [], ◌∷◌, Ok, Err}
use Rattle.refusal.specs.Refusal.{given, refused_at, turned_away, answered, number_of, number, place_of, place, is_refused, first_met, answer, unless_refused}
use Rattle.refusal.specs.declared.refusal.Refusal.{Refusal}
use Rattle.refusal.specs.declared.refusal.Refusal.TheVariants.{Ends, WindowSize, WindowPlace, RasterLength, ListLength, Rows, RunCount, Run, Input, File, Table, Record, NotFinite, PenRange}

-- the refusal r is answered as the number n with the place p, and these are its number and its place
pub record NumberedAs (r : Refusal) (n p : ℕ) : Type 0 where
  pub as_answer : turned_away {A = ℕ} r ≡ refused_at n p
  pub as_number : number r ≡ n
  pub as_place : place r ≡ p

pub record KnownNumbers : Type 0 where
  -- the operator, 1: a coordinate of an end is out of range
  pub ends : NumberedAs Ends 1 0
  -- whoever sets up the frame, 2: width or height is out of range
  pub window_size : NumberedAs WindowSize 2 0
  -- 3: left or top is out of the coordinate range, or the last column or row is above 16383
  pub window_place : NumberedAs WindowPlace 3 0
  -- the calling program, 4: the raster's length isn't height times the bytes of a row
  pub raster_length : NumberedAs RasterLength 4 0
  -- 5: the list is shorter than 3 × (S + 1)
  pub list_length : NumberedAs ListLength 5 0
  -- 6: a band has no rows or ends below the window; or a row number isn't below the height
  pub rows : NumberedAs Rows 6 0
  -- whoever stored a list, 7: three times the count is more than the list's length
  pub run_count : NumberedAs RunCount 7 0
  -- 8: a run's pixel number is below 1, or one of its pixels is out of the coordinate range; with the place of the first bad run, from 0
  pub first_run : NumberedAs (Run 0) 8 0
  pub later_run : NumberedAs (Run 5) 8 5
  -- whoever feeds `lineruns`, 9: the input is over 64 bytes, or isn't one such line and nothing after
  pub input : NumberedAs Input 9 0
  -- 10: the file is under 12 or over 65,536 bytes or lacks the letters
  pub file : NumberedAs File 10 0
  -- 11: a table number falls, or the position, the table and the lengths don't fit together
  pub table : NumberedAs Table 11 0
  -- 12: any record's coordinate is out of range
  pub record_out : NumberedAs Record 12 0
  -- 13: a touching report's float is infinite or not a number
  pub not_finite : NumberedAs NotFinite 13 0
  -- 14: a rounded coordinate is out of range
  pub pen_range : NumberedAs PenRange 14 0

-- two conditions with the numbers 3 and 7, met or not
abbrev pub two : Bool → Bool → List (ℕ × Bool)
two three seven = (3, three) ∷ (7, seven) ∷ []

pub record KnownAnswers : Type 0 where
  -- the first condition that is met decides, in the order of the list; 0 where none is
  pub no_condition : first_met [] ≡ 0
  pub none_met : first_met (two false false) ≡ 0
  pub first_alone : first_met (two true false) ≡ 3
  pub both_met : first_met (two true true) ≡ 3
  pub later_alone : first_met (two false true) ≡ 7
  pub larger_before : first_met ((7, true) ∷ (3, true) ∷ []) ≡ 7
  -- the values where nothing is refused, else the number alone
  pub values : answer {A = ℕ} 0 5 ≡ given 5
  pub refused_one : answer {A = ℕ} 1 5 ≡ refused_at 1 0
  pub refused_nine : answer {A = ℕ} 9 5 ≡ refused_at 9 0
  -- the work where nothing is refused, else the buffer as it was
  pub work : unless_refused {A = ℕ} 0 5 6 ≡ 5
  pub kept_at_one : unless_refused {A = ℕ} 1 5 6 ≡ 6
  pub kept_at_nine : unless_refused {A = ℕ} 9 5 6 ≡ 6
  -- what code returns, as an answer
  pub ok : answered {A = ℕ} (Ok 5) ≡ given 5
  pub err : answered {A = ℕ} (Err Input) ≡ refused_at 9 0
  pub err_run : answered {A = ℕ} (Err (Run 2)) ≡ refused_at 8 2
  -- an answer's number and place, and whether it is a refusal
  pub given_number : number_of {A = ℕ} (given 5) ≡ 0
  pub given_place : place_of {A = ℕ} (given 5) ≡ 0
  pub given_not_refused : is_refused {A = ℕ} (given 5) ≡ false
  pub refused_number : number_of {A = ℕ} (refused_at 8 2) ≡ 8
  pub refused_place : place_of {A = ℕ} (refused_at 8 2) ≡ 2
  pub refused_refused : is_refused {A = ℕ} (refused_at 8 2) ≡ true
