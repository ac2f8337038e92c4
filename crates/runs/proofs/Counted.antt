-- The chunk of three numbers at place k is the run at place k, and the counted runs are said by the list up to their end.
use Rattle.std.proofs.Common.{◌≡◌, ℕ, suc, zero, ◌+◌, ◌*◌, ◌/◌, ◌<◌, Bool, List, [], ℤ, pos, refl, sym, ap, ◌∙◌, arith, length, take, drop, get_or}
use Rattle.std.specs.Simd.{first_chunks}
use Rattle.std.proofs.lemmas.List.{get_or-take, get_or-drop}
use Rattle.counting.specs.Count.{first}
use Rattle.counting.proofs.Any.{any_cong}
use Rattle.coordinate.specs.declared.axis.Axis.{Axis}
use Rattle.drawing.proofs.Several.{several_cong}
use Rattle.runs.specs.Run.{run_figure}
use Rattle.runs.specs.Painting.{run_at, first_bad, runs_figure}
use Rattle.runs.specs.Parts.{stored_at, run_of, bad_run}
use Rattle.runs.proofs.Painting.{stored_bad}

number_at : (n k j i : ℕ) (list : List ℤ) → k < n → j < 3 → i ≡ 3 * k + j → get_or (get_or (first_chunks 3 n list) k []) j (pos 0) ≡ get_or list i (pos 0)
number_at zero k j i list h l e = absurd (omega arith)
number_at (suc n) zero j i list h l e =
    let place : j ≡ i = omega arith in get_or-take 3 list j (pos 0) l ∙ ap (λ (m : ℕ). get_or list m (pos 0)) place
number_at (suc n) (suc k) j i list h l e =
    let place : 3 + (3 * k + j) ≡ i = omega arith in
    number_at n k j (3 * k + j) (drop 3 list) (omega arith) l refl
    ∙ get_or-drop 3 list (3 * k + j) (pos 0)
    ∙ ap (λ (m : ℕ). get_or list m (pos 0)) place

pub stored_chunk : (list : List ℤ) (runs : List (List ℤ)) (k : ℕ) → runs ≡ first_chunks 3 (length list / 3) list → k < length list / 3
    → stored_at (get_or runs k []) 0 ≡ stored_at list k
stored_chunk list runs k e l =
    let n : ℕ = length list / 3 in
    let a = number_at n k 0 (3 * k) list l (omega arith) (omega arith) in
    let b = number_at n k 1 (3 * k + 1) list l (omega arith) refl in
    let c = number_at n k 2 (3 * k + 2) list l (omega arith) refl in
    rw (e, a, b, c) refl

-- ---- the list up to the end of the counted runs

first_cong : (n : ℕ) (f g : ℕ → Bool) → ((k : ℕ) → k < n → f k ≡ g k) → first n f ≡ first n g
unfolding first
first_cong zero f g h = refl
first_cong (suc n) f g h =
    rw (any_cong n f g (λ k l. h k (omega arith)), first_cong n f g (λ k l. h k (omega arith)), h n (omega arith)) refl

-- the part up to there says what the list says
module _ (list part : List ℤ) (n : ℕ) (cut : part ≡ take (3 * n) list) (long : length part / 3 ≡ n) where
  stored_same : (k : ℕ) → k < n → stored_at part k ≡ stored_at list k
  stored_same k l =
      let a = get_or-take (3 * n) list (3 * k) (pos 0) (omega arith) in
      let b = get_or-take (3 * n) list (3 * k + 1) (pos 0) (omega arith) in
      let c = get_or-take (3 * n) list (3 * k + 2) (pos 0) (omega arith) in
      rw (cut, a, b, c) refl

  run_same : (k : ℕ) → k < n → run_at part k ≡ run_at list k
  run_same k l = ap run_of (stored_same k l)

  pub counted_bad : first_bad part (length part / 3) ≡ first_bad list n
  unfolding first_bad
  counted_bad = rw long (first_cong n _ _ (λ k l. stored_bad part k ∙ ap bad_run (stored_same k l) ∙ sym (stored_bad list k)))

  pub counted_runs : (axis : Axis) → runs_figure axis part (length part / 3) ≡ runs_figure axis list n
  counted_runs axis = rw long (several_cong n _ _ (λ k l. ap (run_figure axis) (run_same k l)))
