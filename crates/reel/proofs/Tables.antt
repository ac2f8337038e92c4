-- Where no number of a table is below the one before it, none is below any earlier one, so the last is the highest.
use Prim.Native.Nat.{ℕ, zero, suc, ◌+◌, ◌-◌, ◌*◌, ◌/◌, ◌≤◌, ◌<◌}
use mathlib.Core.Path.{◌≡◌, ap, ◌∙◌}
use mathlib.Core.Bool.{true, false}
use mathlib.Core.Logic.{◌↔◌, ⊎_elim}
use mathlib.Core.List.{List}
use native.Mathlib.Omega.{arith}
use native.Mathlib.Nat.{eq-or-lt_of_le}
use lib.ListN.{length, get_or, take, drop, length-take, length-drop}
use borrow.Author.Tests.{ltb-false, lt-ltb, le-ltb}
use Rattle.counting.proofs.Any.{any_make, any_none, none_at}
use Rattle.counting.proofs.Each.{each-length, each_at, each_cong}
use Rattle.reel.specs.Numbers.{number_at}
use Rattle.reel.specs.Reel.{records_before, last_of, falls, numbers_from}
use Rattle.reel.specs.Reading.{numbers}
use Rattle.reel.proofs.Numbers.{number-take, number-drop}

-- no step of a table falls
abbrev pub Steps : List ℕ → Type 0
Steps table = (k : ℕ) → k < length table → records_before table k ≤ records_before table (suc k)

pub falls_not : (table : List ℕ) → (falls table ≡ false) ↔ Steps table
unfolding falls
falls_not table = (
  λ e k l. ltb-false _ _ (none_at (length table) _ e k l),
  λ h. any_none (length table) _ (λ k l. le-ltb _ _ (h k l)),
)

pub falls_here : (table : List ℕ) (k : ℕ) → k < length table → get_or table k 0 < records_before table k → falls table ≡ true
unfolding falls
falls_here table k l h = any_make (length table) _ k l (lt-ltb _ _ h)

module _ (table : List ℕ) (e : falls table ≡ false) where
  pub rises : (k j : ℕ) → k ≤ j → j ≤ length table → records_before table k ≤ records_before table j
  rises zero j h l = omega arith
  rises (suc k) zero h l = absurd (omega arith)
  rises (suc k) (suc j) h l =
      ⊎_elim
      (λ (q : suc k ≡ suc j). omega (arith, ap (records_before table) q))
      (λ (q : suc k < suc j). omega (arith, rises (suc k) j (omega arith) (omega arith), (falls_not table).0 e j l))
      (eq-or-lt_of_le h)

  -- so no number is above the last one
  pub at_most_last : (k : ℕ) → k ≤ length table → records_before table k ≤ last_of table
  at_most_last k l = rises k (length table) l (omega arith)

-- where a frame's records begin, and how many are up to its end
module _ (table : List ℕ) (level : falls table ≡ false) (few : 8 * last_of table ≤ 65536) (k : ℕ) (l : k < length table) where
  pub record Frame : Type 0 where
    pub rising : records_before table k ≤ records_before table (suc k)
    pub most : 8 * records_before table (suc k) ≤ 65536

  pub frame : Frame
  frame = record { rising = (falls_not table).0 level k l; most = omega (arith, at_most_last table level (suc k) l) }

-- the number of the frame before
pub before_number : (table : List ℕ) (k : ℕ) → 1 ≤ k → get_or table (k - 1) 0 ≡ records_before table k
before_number table zero l = absurd (omega arith)
before_number table (suc k) l = let e : suc k - 1 ≡ k = omega arith in rw e

-- a table that is given by its bytes
module _ (bytes : List ℕ) where
  pub numbers-length : length (numbers bytes) ≡ length bytes / 4
  unfolding numbers
  numbers-length = each-length (length bytes / 4) _

  pub numbers-at : (k : ℕ) → k < length bytes / 4 → get_or (numbers bytes) k 0 ≡ number_at 4 bytes (4 * k)
  unfolding numbers
  numbers-at k l = each_at (length bytes / 4) _ 0 k l

  pub last_number : last_of (numbers bytes) ≡ records_before (numbers bytes) (length bytes / 4)
  last_number = ap (records_before (numbers bytes)) numbers-length

-- n numbers that are cut out of a file
pub numbers_cut : (file : List ℕ) (at n : ℕ) → at + 4 * n ≤ length file → numbers (take (4 * n) (drop at file)) ≡ numbers_from file at n
unfolding numbers
numbers_cut file at n l =
    let size : length (take (4 * n) (drop at file)) / 4 ≡ n = simp (length-take, length-drop) (omega arith) in
    rw size
    (each_cong n _ _ (λ k h.
    number-take 4 (4 * n) (drop at file) (4 * k) (omega arith) ∙ number-drop 4 at file (4 * k)))
