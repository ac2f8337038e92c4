-- Lists of lines chosen by hand, from documents 01 and 02: what the lister answers and leaves in every direction, a run's short
-- coordinate before its lowest long one before its number of pixels, and when it refuses. The proof, by computation, is in
-- proofs/KnownLists.antt. Assumes nothing.
use Rattle.std.specs.Prelude.{ℕ, ◌≡◌, List, [], ◌∷◌, ◌++◌, ℤ, pos}
use Rattle.counting.specs.Count.{each}
use Rattle.coordinate.specs.declared.axis.Axis.{Axis}
use Rattle.coordinate.specs.declared.axis.Axis.TheVariants.{X, Y}
use Rattle.refusal.specs.Refusal.{given, refused}
use Rattle.line.specs.Shorthand.{from, minus}
use Rattle.line.specs.declared.ends.Ends.{Ends}
use Rattle.line_list.specs.Listing.{list_answer, list_after, listing}
use Rattle.line_list.specs.Known.{line_h}

-- n numbers, all of them 9
abbrev pub nines : ℕ → List ℤ
nines n = each n (λ k. pos 9)

-- the lister answers this axis and this number of runs, and leaves this list
abbrev pub Lists : Ends → List ℤ → Axis → ℕ → List ℤ → Type 0
Lists e list a n after = (list_answer e list ≡ given (listing a n)) × (list_after e list ≡ after)

-- it answers this number, and leaves the list as it was
abbrev pub Refuses : Ends → List ℤ → ℕ → Type 0
Refuses e list k = (list_answer e list ≡ refused k) × (list_after e list ≡ list)

-- named by the direction along the long axis and then the other; each list has exactly the numbers that it needs
pub record KnownLists : Type 0 where
  -- line H, and the same with numbers behind its runs
  pub right_down : Lists line_h (nines 12) X 4
      (pos 0 ∷ pos 0 ∷ pos 2 ∷ pos 1 ∷ pos 2 ∷ pos 4 ∷ pos 2 ∷ pos 6 ∷ pos 4 ∷ pos 3 ∷ pos 10 ∷ pos 2 ∷ [])
  pub rest_left : Lists line_h (nines 12 ++ (pos 7 ∷ minus 8 ∷ [])) X 4
      (pos 0 ∷ pos 0 ∷ pos 2 ∷ pos 1 ∷ pos 2 ∷ pos 4 ∷ pos 2 ∷ pos 6 ∷ pos 4 ∷ pos 3 ∷ pos 10 ∷ pos 2 ∷ pos 7 ∷ minus 8 ∷ [])
  -- rows 0, −2/5, −4/5, −6/5, −8/5, −2
  pub right_up : Lists (from (pos 0) (pos 0) (pos 5) (minus 2)) (nines 9) X 3
      (pos 0 ∷ pos 0 ∷ pos 2 ∷ minus 1 ∷ pos 2 ∷ pos 2 ∷ minus 2 ∷ pos 4 ∷ pos 2 ∷ [])
  pub left_down : Lists (from (pos 0) (pos 0) (minus 5) (pos 2)) (nines 9) X 3
      (pos 0 ∷ minus 1 ∷ pos 2 ∷ pos 1 ∷ minus 3 ∷ pos 2 ∷ pos 2 ∷ minus 5 ∷ pos 2 ∷ [])
  -- line I
  pub left_up : Lists (from (pos 0) (pos 0) (minus 11) (minus 3)) (nines 12) X 4
      (pos 0 ∷ minus 1 ∷ pos 2 ∷ minus 1 ∷ minus 5 ∷ pos 4 ∷ minus 2 ∷ minus 9 ∷ pos 4 ∷ minus 3 ∷ minus 11 ∷ pos 2 ∷ [])
  -- line G
  pub down_right : Lists (from (pos 0) (pos 0) (pos 3) (pos 7)) (nines 12) Y 4
      (pos 0 ∷ pos 0 ∷ pos 2 ∷ pos 1 ∷ pos 2 ∷ pos 2 ∷ pos 2 ∷ pos 4 ∷ pos 2 ∷ pos 3 ∷ pos 6 ∷ pos 2 ∷ [])
  -- columns 3, 11/4, 5/2, 9/4, 2
  pub down_left : Lists (from (pos 3) (pos 0) (pos 2) (pos 4)) (nines 6) Y 2 (pos 3 ∷ pos 0 ∷ pos 3 ∷ pos 2 ∷ pos 3 ∷ pos 2 ∷ [])
  -- columns 0, 1/2, 1
  pub up_right : Lists (from (pos 0) (pos 0) (pos 1) (minus 2)) (nines 6) Y 2 (pos 0 ∷ pos 0 ∷ pos 1 ∷ pos 1 ∷ minus 2 ∷ pos 2 ∷ [])
  -- columns 5, 14/3, 13/3, 4
  pub up_left : Lists (from (pos 5) (pos 2) (pos 4) (minus 1)) (nines 6) Y 2 (pos 5 ∷ pos 1 ∷ pos 2 ∷ pos 4 ∷ minus 1 ∷ pos 2 ∷ [])
  -- line A
  pub one_pixel : Lists (from (pos 5) (pos 5) (pos 5) (pos 5)) (nines 3) X 1 (pos 5 ∷ pos 5 ∷ pos 1 ∷ [])

-- 5 where one number is missing, and 1 before it
pub record KnownRefusals : Type 0 where
  pub one_missing : Refuses line_h (nines 11) 5
  pub one_pixel : Refuses (from (pos 5) (pos 5) (pos 5) (pos 5)) (nines 2) 5
  pub no_list : Refuses line_h [] 5
  pub one_first : Refuses (from (pos 16384) (pos 0) (pos 16383) (pos 0)) [] 1
  pub one_with_room : Refuses (from (pos 16383) (pos 0) (pos 16384) (pos 0)) (nines 3) 1
