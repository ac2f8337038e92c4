-- A run within the limits makes a line of at most 20 bytes, and the lines of k + 1 runs are those of k runs and one more.
use Rattle.std.proofs.Common.{◌≡◌, ℕ, suc, zero, ◌+◌, ◌*◌, ◌/◌, ◌≤◌, ◌<◌, false, List, [], ◌++◌, ℤ, pos, negsuc, refl, sym, ap, ◌∙◌, append_assoc, append-nil, add-one, arith, length, take, drop, get_or, length-append}
use Rattle.std.specs.Simd.{first_chunks}
use Rattle.std.proofs.lemmas.List.{get_or-take, get_or-drop, drop-drop}
use Rattle.std.proofs.lemmas.Fmt.{length-decimal-le, length_signed_le}
use lib.IntN.{nat_abs}
use lib.Signed.{non_neg, mag}
use lib.Dec.{T}
use mir.Syntax.{w32}
use mir.Val.{Fits, SFits, to_z, of_z}
use mir.ValLaws.{to_z-of_z}
use Rattle.counting.specs.Count.{each}
use Rattle.coordinate.specs.Coordinate.{out_of_range}
use Rattle.coordinate.proofs.Difference.{diff_parts}
use Rattle.coordinate.proofs.Bias.{in_range, in_range_fits}
use Rattle.runs.specs.Run.{Run}
use Rattle.runs.specs.Painting.{stored_across, stored_lowest, stored_pixels, natural, run_at, run_bad}
use Rattle.runs.specs.Parts.{stored_at, bad_run}
use Rattle.runs.proofs.Bad.{Lawful, lawful}
use Rattle.lineruns_text.specs.Writing.{run_line, run_lines}
use Rattle.lineruns_text.proofs.Printed.{run_is}

pub lines_none : (f : ℕ → Run) → run_lines (each 0 f) ≡ []
unfolding run_lines each
lines_none f = refl

lines_suc : (k : ℕ) (f : ℕ → Run) → run_lines (each (suc k) f) ≡ run_lines (each k f) ++ run_line (f k)
unfolding run_lines each
lines_suc zero f = append-nil (run_line (f 0))
lines_suc (suc k) f = ap (λ (t : List ℕ). run_line (f 0) ++ t) (lines_suc k (λ j. f (suc j))) ∙ sym (append_assoc (run_line (f 0)) (run_lines (each k (λ j. f (suc j)))) (run_line (f (suc k))))

pub lines_more : (k : ℕ) (f : ℕ → Run) → run_lines (each (k + 1) f) ≡ run_lines (each k f) ++ run_line (f k)
lines_more k f = ap (λ (n : ℕ). run_lines (each n f)) (add-one k) ∙ lines_suc k f

-- ---- a run within the limits

small : (z : ℤ) → out_of_range z ≡ false → mag z < 50000
small (pos n) e = let l = in_range (pos n) _ _ (diff_parts (pos n)) e in omega arith
small (negsuc n) e = let l = in_range (negsuc n) _ _ (diff_parts (negsuc n)) e in omega arith

module _ (list : List ℤ) (k : ℕ) (good : run_bad list k ≡ false) where
  held : Lawful (stored_at list k)
  unfolding run_bad bad_run
  held = lawful (stored_at list k) good

  across_fits : SFits w32 (stored_across list k)
  across_fits = record { sfits = in_range_fits _ held.across_in }

  lowest_fits : SFits w32 (stored_lowest list k)
  lowest_fits = record { sfits = in_range_fits _ held.lowest_in }

  pub line_length : length (run_line (run_at list k)) ≤ 20
  line_length =
      let a = length_signed_le 5 (stored_across list k) (omega (arith, small _ held.across_in)) (omega (arith, small _ held.across_in)) in
      let l = length_signed_le 5 (stored_lowest list k) (omega (arith, small _ held.lowest_in)) (omega (arith, small _ held.lowest_in)) in
      let p = length-decimal-le 5 (natural (stored_pixels list k)) (omega arith) (omega (arith, held.end)) (omega (arith, held.end)) in
      rw (run_is (stored_across list k) (stored_lowest list k) (natural (stored_pixels list k)) across_fits lowest_fits (omega (arith, held.end)))
      (omega (arith, length-append {A = ℕ}))

-- ---- the numbers of run k, as they are read

chunk_at : (n k : ℕ) (list : List ℤ) → k < n → get_or (first_chunks 3 n list) k [] ≡ take 3 (drop (3 * k) list)
chunk_at zero k list h = absurd (omega arith)
chunk_at (suc n) zero list h = refl
chunk_at (suc n) (suc k) list h =
    let place : 3 + 3 * k ≡ 3 * suc k = omega arith in
    chunk_at n k (drop 3 list) (omega arith) ∙ ap (λ (l : List ℤ). take 3 l) (drop-drop (3 * k) 3 list ∙ ap (λ (i : ℕ). drop i list) place)

abbrev item : List ℤ → ℕ → ℕ → ℤ
item list k j = get_or (get_or (first_chunks 3 (length list / 3) list) k []) j (pos 0)

-- the run as it is handed over
abbrev pub handed : List ℤ → ℕ → Run
handed list k =
    record {
      across = to_z w32 (of_z w32 (item list k 0));
      lowest = to_z w32 (of_z w32 (item list k 1));
      pixels = nat_abs (to_z w32 (of_z w32 (item list k 2)));
    }

positive : (z : ℤ) → 1 ≤ natural z → z ≡ pos (natural z)
positive (pos n) l = refl
positive (negsuc n) l = absurd (omega arith)

module _ (list : List ℤ) (k : ℕ) (inside : k < length list / 3) where
  item_is : (j : ℕ) → j < 3 → item list k j ≡ get_or list (3 * k + j) (pos 0)
  item_is j h =
      rw (chunk_at (length list / 3) k list inside)
      (get_or-take 3 (drop (3 * k) list) j (pos 0) h ∙ get_or-drop (3 * k) list j (pos 0))

  first_is : item list k 0 ≡ stored_across list k
  first_is = let place : 3 * k + 0 ≡ 3 * k = omega arith in item_is 0 (omega arith) ∙ ap (λ (i : ℕ). get_or list i (pos 0)) place

  module _ (good : run_bad list k ≡ false) where
    pixels_is : to_z w32 (of_z w32 (item list k 2)) ≡ pos (natural (stored_pixels list k))
    pixels_is =
        let l = held list k good in
        rw (item_is 2 (omega arith))
        (ap (λ (z : ℤ). to_z w32 (of_z w32 z)) (positive (stored_pixels list k) l.some)
        ∙ to_z-of_z w32 (pos (natural (stored_pixels list k))) (record { sfits = omega (arith, l.end) }))

    pub pixels_fit : T (non_neg (to_z w32 (of_z w32 (item list k 2)))) × Fits w32 (nat_abs (to_z w32 (of_z w32 (item list k 2))))
    pixels_fit = let l = held list k good in rw pixels_is (tt, record { fits = omega (arith, l.end) })

    pub handed_is : handed list k ≡ run_at list k
    handed_is =
        rw (first_is, item_is 1 (omega arith), pixels_is, to_z-of_z w32 (stored_across list k) (across_fits list k good), to_z-of_z w32 (stored_lowest list k) (lowest_fits list k good))
        refl
