-- Document 01, 'Operations': what `lineruns` reads. One line: four numbers, single blanks between, ended by a newline or the
-- end of input; a number is an optional minus and 1 to 6 digits. Assumes nothing.
use Rattle.std.specs.Prelude.{ℕ, ◌+◌, ◌-◌, ◌*◌, Bool, cond, ◌&&◌, Option, None, Some, List, [], ◌∷◌, ℤ, pos, neg_ℤ, length, ltb, leb, eqb}
use Rattle.std.specs.List.{slice_split}
use Rattle.refusal.specs.Refusal.{Answer, given, refused}
use Rattle.line.specs.declared.ends.Ends.{Ends}

-- the characters that mean something
abbrev pub newline : ℕ
newline = 10

abbrev pub blank : ℕ
blank = 32

abbrev pub minus : ℕ
minus = 45

-- '0' to '9'
abbrev pub is_digit : ℕ → Bool
is_digit b = leb 48 b && leb b 57

-- the number that digits after the number n make; none where a character is no digit
unfoldable pub value_from : ℕ → List ℕ → Option ℕ
value_from n [] = Some n
value_from n (b ∷ bs) = cond (is_digit b) (value_from (10 * n + (b - 48)) bs) None

-- 1 to 6 digits
unfoldable pub digits : List ℕ → Option ℕ
unfolding value_from
digits w = cond (leb 1 (length w) && leb (length w) 6) (value_from 0 w) None

abbrev pub positive : Option ℕ → Option ℤ
positive None = None
positive (Some n) = Some (pos n)

abbrev pub negative : Option ℕ → Option ℤ
negative None = None
negative (Some n) = Some (neg_ℤ (pos n))

-- an optional minus and 1 to 6 digits
unfoldable pub number : List ℕ → Option ℤ
unfolding digits
number [] = None
number (b ∷ bs) = cond (eqb b minus) (negative (digits bs)) (positive (digits (b ∷ bs)))

-- the text without the newline that ends it, if one does
unfoldable pub unended : List ℕ → List ℕ
unended [] = []
unended (b ∷ []) = cond (eqb b newline) [] (b ∷ [])
unended (b ∷ c ∷ bs) = b ∷ unended (c ∷ bs)

-- the words between blanks; two blanks in a row have an empty word between them
unfoldable pub words : List ℕ → List (List ℕ)
words s = slice_split (λ b. eqb b blank) s

-- the line of four numbers
abbrev pub ends_of : Option ℤ → Option ℤ → Option ℤ → Option ℤ → Option Ends
ends_of (Some a) (Some b) (Some c) (Some d) = Some (record { x0 = a; y0 = b; x1 = c; y1 = d })
ends_of None b c d = None
ends_of (Some a) None c d = None
ends_of (Some a) (Some b) None d = None
ends_of (Some a) (Some b) (Some c) None = None

-- exactly four words, each a number
unfoldable pub four : List (List ℕ) → Option Ends
unfolding number
four [] = None
four (a ∷ []) = None
four (a ∷ b ∷ []) = None
four (a ∷ b ∷ c ∷ []) = None
four (a ∷ b ∷ c ∷ d ∷ []) = ends_of (number a) (number b) (number c) (number d)
four (a ∷ b ∷ c ∷ d ∷ e ∷ ws) = None

-- an input has at most 64 bytes
abbrev pub over_long : List ℕ → Bool
over_long s = ltb 64 (length s)

-- the line that the input is; none where it is over 64 bytes, or is not one such line and nothing after
unfoldable pub line_of : List ℕ → Option Ends
unfolding four words unended
line_of s = cond (over_long s) None (four (words (unended s)))

-- what reading answers: the line, or 9 where there is none
abbrev pub read_answer : Option Ends → Answer Ends
read_answer None = refused 9
read_answer (Some e) = given e
