-- Inputs chosen by hand, what is read of them and the bytes that are printed, from documents 01 and 02. The proof, by computation, is
-- in proofs/Known.antt. Assumes nothing.
use Rattle.std.specs.Prelude.{ℕ, ◌≡◌, true, false, None, Some, List, [], ◌∷◌, ◌++◌, replicate, pos, codes}
use Rattle.refusal.specs.Refusal.{first_met}
use Rattle.line.specs.Shorthand.{from, minus}
use Rattle.lineruns_text.specs.Reading.{newline, number, over_long, line_of}
use Rattle.lineruns_text.specs.Writing.{print_conditions, printed}

-- a text with a newline behind it
abbrev pub ended : List ℕ → List ℕ
ended text = text ++ (newline ∷ [])

-- which words are numbers
pub record KnownWords : Type 0 where
  pub plain : number (codes "11") ≡ Some (pos 11)
  pub below_zero : number (codes "-3") ≡ Some (minus 3)
  pub minus_zero : number (codes "-0") ≡ Some (pos 0)
  pub leading_zeros : number (codes "000011") ≡ Some (pos 11)
  pub six_digits : number (codes "999999") ≡ Some (pos 999999)
  pub minus_and_six : number (codes "-000003") ≡ Some (minus 3)
  pub seven_digits : number (codes "0000003") ≡ None
  pub minus_and_seven : number (codes "-0000003") ≡ None
  pub empty : number (codes "") ≡ None
  pub minus_alone : number (codes "-") ≡ None
  pub two_minuses : number (codes "--3") ≡ None
  pub minus_behind : number (codes "3-") ≡ None
  pub plus : number (codes "+3") ≡ None
  pub letter : number (codes "1a") ≡ None
  -- the characters before '0' and after '9'
  pub slash : number (codes "1/") ≡ None
  pub colon : number (codes "1:") ≡ None

-- which inputs are a line
pub record KnownInputs : Type 0 where
  pub newline : line_of (ended (codes "0 0 11 3")) ≡ Some (from (pos 0) (pos 0) (pos 11) (pos 3))
  pub no_newline : line_of (codes "0 0 11 3") ≡ Some (from (pos 0) (pos 0) (pos 11) (pos 3))
  pub signs : line_of (codes "-0 000007 000011 -3") ≡ Some (from (pos 0) (pos 7) (pos 11) (minus 3))
  -- no line is longer than this, 32 bytes
  pub longest : line_of (ended (codes "-016384 -016384 -016384 -016384")) ≡ Some (from (minus 16384) (minus 16384) (minus 16384) (minus 16384))
  pub empty : line_of [] ≡ None
  pub newline_alone : line_of (ended []) ≡ None
  pub two_newlines : line_of (ended (ended (codes "0 0 11 3"))) ≡ None
  pub text_after : line_of (ended (codes "0 0 11 3") ++ codes "0") ≡ None
  pub carriage_return : line_of (ended (codes "0 0 11 3" ++ (13 ∷ []))) ≡ None
  pub nul : line_of (codes "0 0 11 3" ++ (0 ∷ [])) ≡ None
  pub tab : line_of (codes "0 0 11" ++ (9 ∷ []) ++ codes "3") ≡ None
  pub two_blanks : line_of (codes "0  0 11 3") ≡ None
  pub leading_blank : line_of (codes " 0 0 11 3") ≡ None
  pub trailing_blank : line_of (ended (codes "0 0 11 3 ")) ≡ None
  pub three_numbers : line_of (codes "0 0 11") ≡ None
  pub five_numbers : line_of (codes "0 0 11 3 5") ≡ None
  pub of_64_bytes : over_long (replicate 64 48) ≡ false
  pub of_65_bytes : over_long (replicate 65 48) ≡ true

-- the lists of lines: the lettered lines A, E with its half as document 02, 4/13, has it, G, H and I, and a pixel at each end of
-- the coordinate range
pub record KnownLists : Type 0 where
  pub A : printed (codes "5 5 5 5") ≡ ended (codes "axis x runs 1") ++ ended (codes "5 5 1")
  pub E : printed (codes "2 1 0 0") ≡ ended (codes "axis x runs 2") ++ ended (codes "1 1 2") ++ ended (codes "0 0 1")
  pub G : printed (ended (codes "0 0 3 7"))
      ≡ ended (codes "axis y runs 4") ++ ended (codes "0 0 2") ++ ended (codes "1 2 2") ++ ended (codes "2 4 2") ++ ended (codes "3 6 2")
  pub H : printed (ended (codes "0 0 11 3"))
      ≡ ended (codes "axis x runs 4") ++ ended (codes "0 0 2") ++ ended (codes "1 2 4") ++ ended (codes "2 6 4") ++ ended (codes "3 10 2")
  -- the same input as document 01 gives it, without a newline
  pub five_lines : printed (codes "0 0 11 3")
      ≡ ended (codes "axis x runs 4") ++ ended (codes "0 0 2") ++ ended (codes "1 2 4") ++ ended (codes "2 6 4") ++ ended (codes "3 10 2")
  pub I : printed (codes "0 0 -11 -3")
      ≡ ended (codes "axis x runs 4") ++ ended (codes "0 -1 2") ++ ended (codes "-1 -5 4") ++ ended (codes "-2 -9 4") ++ ended (codes "-3 -11 2")
  pub highest : printed (codes "16383 -0 16383 0") ≡ ended (codes "axis x runs 1") ++ ended (codes "0 16383 1")
  pub lowest : printed (codes "0 -16384 0 -16384") ≡ ended (codes "axis x runs 1") ++ ended (codes "-16384 0 1")

-- the refusals, and which of them is told where several are met
pub record KnownRefusals : Type 0 where
  pub no_line : printed (codes "runs") ≡ ended (codes "refused 9")
  pub nothing : printed [] ≡ ended (codes "refused 9")
  pub nine_before_one : printed (codes "16384 0 0") ≡ ended (codes "refused 9")
  pub too_high : printed (codes "16384 0 0 0") ≡ ended (codes "refused 1")
  pub too_low : printed (codes "0 0 0 -16385") ≡ ended (codes "refused 1")
  pub one_before_five : printed (codes "16384 16384 0 0") ≡ ended (codes "refused 1")
  pub runs_5001 : printed (codes "0 0 5001 5000") ≡ ended (codes "refused 5")
  pub runs_5000 : first_met (print_conditions (line_of (codes "0 0 5000 4999"))) ≡ 0
