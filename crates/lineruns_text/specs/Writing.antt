-- Document 01, 'Operations': what `lineruns` prints. Assumes nothing.
use Rattle.std.specs.Prelude.{ℕ, zero, suc, ◌+◌, ◌/◌, ◌%◌, Bool, cond, List, [], ◌∷◌, ◌++◌, ℤ, pos, negsuc, ltb}
use Rattle.std.specs.Prelude.{Option, None, Some, is_none}
use Rattle.coordinate.specs.Coordinate.{along}
use Rattle.refusal.specs.Refusal.{Answer, given, refused_at, answer, first_met}
use Rattle.runs.specs.Run.{Run}
use Rattle.line.specs.Line.{short, axis, ends_conditions}
use Rattle.line.specs.declared.ends.Ends.{Ends}
use Rattle.line_list.specs.Runs.{runs}
use Rattle.lineruns_text.specs.Reading.{line_of}

-- a number in decimal, without leading zeros; at most n + 1 digits are asked of `decimal_up_to n`
unfoldable pub decimal_up_to : ℕ → ℕ → List ℕ
decimal_up_to zero k = (48 + k % 10) ∷ []
decimal_up_to (suc n) k = cond (ltb k 10) ((48 + k) ∷ []) (decimal_up_to n (k / 10) ++ ((48 + k % 10) ∷ []))

-- every 64-bit number has at most 20 digits
unfoldable pub decimal : ℕ → List ℕ
unfolding decimal_up_to
decimal k = decimal_up_to 19 k

-- with a minus where it is below 0
unfoldable pub signed : ℤ → List ℕ
unfolding decimal
signed (pos n) = decimal n
signed (negsuc n) = 45 ∷ decimal (suc n)

-- 'axis ' and a letter
abbrev pub axis_name : ℕ → List ℕ
axis_name letter = 97 ∷ 120 ∷ 105 ∷ 115 ∷ 32 ∷ letter ∷ []

-- 'axis x runs 4' and a newline, of a letter and a number
unfoldable pub axis_text : ℕ → ℕ → List ℕ
unfolding decimal
axis_text letter n = axis_name letter ++ (32 ∷ 114 ∷ 117 ∷ 110 ∷ 115 ∷ 32 ∷ (decimal n ++ (10 ∷ [])))

-- the letter is 'x' or 'y'
unfoldable pub axis_line : Ends → List ℕ
unfolding axis_text
axis_line e = axis_text (along (axis e) 120 121) (short e + 1)

-- 'refused 9' and a newline
unfoldable pub refused_line : ℕ → List ℕ
unfolding decimal
refused_line n = 114 ∷ 101 ∷ 102 ∷ 117 ∷ 115 ∷ 101 ∷ 100 ∷ 32 ∷ (decimal n ++ (10 ∷ []))

-- a run's three numbers, in the list's order, single blanks between
unfoldable pub run_line : Run → List ℕ
unfolding signed
run_line r = signed r.across ++ (32 ∷ signed r.lowest) ++ (32 ∷ decimal r.pixels) ++ (10 ∷ [])

unfoldable pub run_lines : List Run → List ℕ
unfolding run_line
run_lines [] = []
run_lines (r ∷ rs) = run_line r ++ run_lines rs

-- what refuses a line: 1, then 5, where S + 1 is above 5000
abbrev pub line_conditions : Option Ends → List (ℕ × Bool)
line_conditions None = []
line_conditions (Some e) = ends_conditions e ++ ((5, ltb 5000 (short e + 1)) ∷ [])

-- what refuses an input, by the line that it is: 9, where it is none, then what refuses the line
abbrev pub print_conditions : Option Ends → List (ℕ × Bool)
print_conditions line = (9, is_none line) ∷ line_conditions line

-- the axis and the runs of a line
abbrev pub list_text : Option Ends → List ℕ
list_text None = []
list_text (Some e) = axis_line e ++ run_lines (runs e)

-- what is answered: the list's text, or a refusal
abbrev pub print_answer : Option Ends → Answer (List ℕ)
print_answer line = answer (first_met (print_conditions line)) (list_text line)

-- what is printed of an answer: of a refusal its number
abbrev pub told : Answer (List ℕ) → List ℕ
told (given text) = text
told (refused_at n place) = refused_line n

-- all that is printed for an input
unfoldable pub printed : List ℕ → List ℕ
unfolding line_of axis_line refused_line run_lines
printed input = told (print_answer (line_of input))
