-- What std's iterators and slices answer, in the words of the definitions: a test of some numbers, whether they rise, and what
-- they end with.
use Prim.Native.Nat.{ℕ, zero, suc, ◌+◌, ◌-◌, ◌*◌, ◌/◌, ◌≤◌, ◌<◌}
use mathlib.Core.Path.{◌≡◌, refl, sym, ap, ap₂, ◌∙◌}
use mathlib.Core.Bool.{Bool, true, false, not, ◌&&◌, ◌||◌}
use mathlib.Core.List.{List, [], ◌∷◌, map, map-id}
use native.Mathlib.Nat.{zero-add}
use native.Mathlib.Omega.{arith}
use native.Mathlib.Numerals.{add-one}
use lib.Dec.{eqb}
use borrow.Author.Tests.{eqb-true, eq-eqb}
use lib.ListN.{length, get_or, take, drop, length-take, length-drop}
use lib.Seq.{get_or-take, get_or-drop, take-length, ext_get_or}
use Rattle.std.specs.Prelude.{Option, None, Some, IsTrue}
use Rattle.std.specs.Bool.{OnTrue}
use Rattle.std.specs.List.{list_any, ends_with, range_with_len, IsAllAdjacentAnswer}
use Rattle.std.specs.Cmp.Lexicographic.{pointwise}
use Rattle.std.specs.Ordering.{nat_cmp, partial_le}
use Rattle.std.specs.Iterator.Order.{IsSortedAnswer}
use Rattle.std.specs.Iterator.Runs.{SomeRun, YieldsRun}
use Rattle.std.proofs.lemmas.Bool.Decides.{nat_tests}
use Rattle.std.proofs.lemmas.Iterator.{YieldsList}
use Rattle.std.proofs.lemmas.Iterator.Consumers.{YieldsList-at, YieldsList-so_far, YieldsList-end}
use Rattle.std.proofs.lemmas.List.FromFn.{length-range_with_len, get_or-range_with_len, length-map-range_with_len, get_or-map-range_with_len}
use Rattle.counting.specs.Count.{any}
use Rattle.counting.proofs.Boolean.{bool_iff, clash}
use Rattle.counting.proofs.Any.{any_join, any_cong}
use Rattle.reel.specs.Numbers.{number_at}
use Rattle.reel.specs.Reel.{records_before, falls, letters}
use Rattle.reel.specs.Reading.{numbers, lacks_letters}
use Rattle.reel.proofs.Tables.{Steps, falls_not, falls_here, numbers-length, numbers-at}

-- ---- `any`

module _ {A : Type 0} (test : A → Bool) where
  pub list_any_is : (items : List A) (d : A) → list_any test items ≡ any (length items) (λ k. test (get_or items k d))
  unfolding any
  list_any_is [] d = refl
  list_any_is (a ∷ items) d =
      ap (λ (t : Bool). test a || t) (list_any_is items d ∙ any_cong (length items) _ _ (λ k _. let e : 1 + k ≡ suc k = omega arith in rw e))
      ∙ any_join 1 (length items) (λ k. test (get_or (a ∷ items) k d))
      ∙ (let e : 1 + length items ≡ length (a ∷ items) = omega arith in ap (λ (n : ℕ). any n (λ k. test (get_or (a ∷ items) k d))) e)

pub range_any_is : (n : ℕ) (test : ℕ → Bool) → list_any test (range_with_len 0 n) ≡ any n test
range_any_is n test =
    list_any_is test (range_with_len 0 n) 0
    ∙ ap (λ (m : ℕ). any m (λ k. test (get_or (range_with_len 0 n) k 0))) (length-range_with_len 0 n)
    ∙ any_cong n _ _ (λ k l. ap test (get_or-range_with_len 0 n k 0 l ∙ zero-add k))

-- ---- `map`

-- the numbers of a table, read one after the other
pub numbers_read : (s : List ℕ) → map (λ (k : ℕ). number_at 4 s (4 * k)) (range_with_len 0 (length s / 4)) ≡ numbers s
numbers_read s =
    let n = length s / 4 in
    let number = λ (k : ℕ). number_at 4 s (4 * k) in
    let size : length (map number (range_with_len 0 n)) ≡ n = length-map-range_with_len number 0 n in
    ext_get_or 0 (map number (range_with_len 0 n)) (numbers s) (size ∙ sym (numbers-length s))
    (λ k l. get_or-map-range_with_len number 0 n k k 0 (omega arith) (zero-add k) ∙ sym (numbers-at s k (omega arith)))

-- ---- `is_sorted`

abbrev in_order : ℕ → ℕ → Bool
in_order = partial_le (λ x y. Some (nat_cmp x y))

order_true : (x y : ℕ) → in_order x y ≡ true → x ≤ y
order_true x y e = grind (arith, nat_tests)

order_false : (x y : ℕ) → in_order x y ≡ false → y < x
order_false x y e = grind (arith, nat_tests)

-- the first numbers of a table were looked at, and all of them where no neighbours are out of order
rises_is : (table items : List ℕ) (r : Bool) → items ≡ take (length items) table → (r ≡ true → items ≡ table)
    → IsAllAdjacentAnswer (λ x y b. in_order x y ≡ b) items r → not r ≡ falls table
rises_is table items true e whole h = sym ((falls_not table).1 steps)
  where
    steps : Steps table
    steps zero l = omega arith
    steps (suc k) l =
        let f = order_true (get_or items k 0) (get_or items (k + 1) 0) (h k 0 (omega (arith, ap length (whole refl)))) in
        rw (whole refl, add-one k) at f
rises_is table items false e whole h = sym (falls_here table (h.0 + 1) inside later)
  where
    inside : h.0 + 1 < length table
    inside = omega (arith, h.1, ap length e, length-take (length items) table)

    at_item : (i : ℕ) → i < length items → get_or items i 0 ≡ get_or table i 0
    at_item i l = ap (λ (t : List ℕ). get_or t i 0) e ∙ get_or-take (length items) table i 0 l

    later : get_or table (h.0 + 1) 0 < records_before table (h.0 + 1)
    later =
        let before : records_before table (h.0 + 1) ≡ get_or table h.0 0 = rw (add-one h.0) refl in
        omega (arith, before, order_false (get_or items h.0 0) (get_or items (h.0 + 1) 0) (h.2 0), at_item h.0 (omega (arith, h.1)), at_item (h.0 + 1) h.1)

pub slice_rises_is : (table : List ℕ) (r : Bool) → IsAllAdjacentAnswer (λ x y b. in_order x y ≡ b) table r → falls table ≡ not r
slice_rises_is table r h = sym (rises_is table table r (sym (take-length table)) (λ _. refl) h)

at_true : {P : Type 0} (r : Bool) → OnTrue r P → r ≡ true → P
at_true true h e = h
at_true false h e = absurd (clash false refl e)

module _ {S : Type 0} {steps : S → Option ℕ → S → Type 0} {s : S} {table : List ℕ} (y : YieldsList steps (λ x. x) s table) where
  pub run_rises_is : (r : Bool) → SomeRun steps s (λ p. OnTrue r (IsTrue p.whole) × IsSortedAnswer in_order p.items r) → not r ≡ falls table
  unfolding YieldsRun
  run_rises_is r w =
      let p = w.0 in
      let from = YieldsList-at w.1 y in
      let gave = p.gave.0 in
      let same = map-id p.items in
      rises_is table p.items r
      (sym same ∙ YieldsList-so_far from p.items gave.0 gave.1)
      (λ e. sym same ∙ (let end = gave.2 (at_true r w.2.0 e) in (YieldsList-end from p.items gave.0 gave.1 None end.0 refl end.1).0))
      w.2.1.0

-- ---- `ends_with`

eqb_swap : (a b : ℕ) → eqb a b ≡ eqb b a
eqb_swap a b = bool_iff (eqb a b) (eqb b a) (λ t. eq-eqb b a (sym (eqb-true a b t))) (λ t. eq-eqb a b (sym (eqb-true b a t)))

not_both : (s t : Bool) → not (s && t) ≡ not s || not t
not_both true t = refl
not_both false t = refl

pointwise_is : (p s : List ℕ) → length s ≡ length p → not (pointwise eqb p s) ≡ any (length p) (λ k. not (eqb (get_or s k 0) (get_or p k 0)))
unfolding any
pointwise_is [] [] e = refl
pointwise_is [] (y ∷ s) e = absurd (omega arith)
pointwise_is (x ∷ p) [] e = absurd (omega arith)
pointwise_is (x ∷ p) (y ∷ s) e =
    not_both (eqb x y) (pointwise eqb p s)
    ∙ ap₂ (λ (t u : Bool). not t || u) (eqb_swap x y) (pointwise_is p s (omega arith) ∙ any_cong (length p) _ _ (λ k _. let e : 1 + k ≡ suc k = omega arith in rw e))
    ∙ any_join 1 (length p) (λ k. not (eqb (get_or (y ∷ s) k 0) (get_or (x ∷ p) k 0)))
    ∙ (let e : 1 + length p ≡ length (x ∷ p) = omega arith in ap (λ (n : ℕ). any n (λ k. not (eqb (get_or (y ∷ s) k 0) (get_or (x ∷ p) k 0)))) e)

pub ends_is : (file : List ℕ) → 4 ≤ length file → not (ends_with eqb file letters) ≡ lacks_letters file
unfolding lacks_letters
ends_is file l =
    let four = length file - 4 in
    pointwise_is letters (drop four file) (simp length-drop (omega arith))
    ∙ any_cong 4 _ _ (λ k _. ap (λ (x : ℕ). not (eqb x (get_or letters k 0))) (get_or-drop four file k 0))
