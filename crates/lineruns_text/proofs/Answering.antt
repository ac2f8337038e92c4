-- A list of 15000 numbers has room for 5000 runs and no more, so the lister's answer is the one that is printed; every text
-- that is printed has room in 110000 bytes.
use Rattle.std.proofs.Common.{◌≡◌, ℕ, zero, suc, ◌+◌, ◌*◌, ◌/◌, ◌≤◌, ◌<◌, Bool, true, false, cond, Option, None, Some, List, [], ◌∷◌, ◌++◌, ℤ, refl, sym, ap, ◌∙◌, ⊎_elim, arith, length, take, drop, append-nil, length-append, ltb}
use borrow.Author.Tests.{ltb-true, ltb-false, lt-ltb}
use Rattle.counting.specs.Count.{each}
use Rattle.counting.proofs.Boolean.{tell, bool_iff}
use Rattle.counting.proofs.Each.{each_cong}
use Rattle.coordinate.specs.Coordinate.{along}
use Rattle.refusal.specs.Refusal.{Answer, given, turned_away, answer, unless_refused, number_of, number, first_met}
use Rattle.refusal.specs.declared.refusal.Refusal.{Refusal}
use Rattle.refusal.proofs.Conditions.{none_met}
use Rattle.refusal.proofs.Handing.{turned, number_is, number-answer}
use Rattle.std.proofs.lemmas.List.{take_at}
use Rattle.runs.specs.Run.{run_list}
use Rattle.runs.specs.Painting.{run_at, run_bad}
use Rattle.line.specs.Line.{short, axis, ends_out}
use Rattle.line.specs.declared.ends.Ends.{Ends}
use Rattle.line_list.specs.Runs.{run, runs}
use Rattle.line_list.specs.Listing.{list_conditions, line_list, list_answer, listing}
use Rattle.line_list.specs.RunFacts.{list_then}
use Rattle.line_list.specs.declared.list.Listing.{Listing}
use Rattle.line_list.proofs.ListAnswer.{listing_met, listing_axis, listing_runs}
use Rattle.line_list.proofs.RunPixels.{runs-each}
use Rattle.line_list.proofs.RunFacts.{read_back, none_bad}
use Rattle.lineruns_text.specs.Writing.{axis_text, axis_line, refused_line, run_lines, line_conditions, list_text, print_answer, told, printed}
use Rattle.lineruns_text.specs.Reading.{line_of}
use Rattle.lineruns_text.specs.Listing.{input_answer, input_after}
use Rattle.lineruns_text.specs.Written.{written}
use Rattle.lineruns_text.proofs.Lengths.{refused_line-length, axis_line-length, lines_length}
use Rattle.lineruns_text.proofs.Placing.{length-written}

-- ---- what the lister says of the printed text

-- the list's runs have room in the output, and their text is what is printed for the line
pub record Printable (line : Option Ends) (l : Listing) (listed : List ℤ) : Type 0 where
  pub few : l.runs ≤ 5000
  pub number : length listed / 3 ≡ l.runs
  pub good : (k : ℕ) → k < l.runs → run_bad listed k ≡ false
  pub text : axis_text (along l.axis 120 121) l.runs ++ run_lines (each l.runs (run_at listed)) ≡ told (print_answer line)

-- the first condition of a line that is met decides
told_line : (e : Ends) → told (print_answer (Some e)) ≡ told (answer (first_met (line_conditions (Some e))) (list_text (Some e)))
unfolding first_met
told_line e = refl

told_none : told (print_answer None) ≡ refused_line 9
unfolding first_met
told_none = refl

told-answer : (n : ℕ) (text : List ℕ) (r : Refusal) → number r ≡ n → told (answer n text) ≡ refused_line (number r)
told-answer zero text r q = absurd (omega (arith, (turned r).some))
told-answer (suc n) text r q = ap refused_line (sym q)

room_same : (n : ℕ) → ltb 15000 (3 * n) ≡ ltb 5000 n
room_same n =
    bool_iff (ltb 15000 (3 * n)) (ltb 5000 n)
    (λ t. let l = ltb-true 15000 (3 * n) t in lt-ltb 5000 n (omega arith))
    (λ t. let l = ltb-true 5000 n t in lt-ltb 15000 (3 * n) (omega arith))

module _ (e : Ends) (space list : List ℤ) (size : length space ≡ 15000)
    (left : list ≡ unless_refused {A = List ℤ} (first_met (list_conditions e (length space))) (line_list e space) space) where
  abbrev met : ℕ
  met = first_met (list_conditions e (length space))

  met_same : met ≡ first_met (line_conditions (Some e))
  met_same = rw size (ap (λ (b : Bool). first_met ((1, ends_out e) ∷ (5, b) ∷ [])) (room_same (short e + 1)))

  line_refused : (q : Refusal) → ◌≡◌ {A = Answer Listing} (turned_away q) (list_answer e space) → told (print_answer (Some e)) ≡ refused_line (number q)
  line_refused q is =
      told_line e
      ∙ told-answer (first_met (line_conditions (Some e))) (list_text (Some e)) q
      (sym (number_is Listing q) ∙ ap number_of is ∙ number-answer met (listing (axis e) (short e + 1)) ∙ met_same)

  module _ (l : Listing) (is : ◌≡◌ {A = Answer Listing} (given l) (list_answer e space)) where
    none_met_here : met ≡ 0
    none_met_here = listing_met e space l is

    axis_is : l.axis ≡ axis e
    axis_is = listing_axis e space l is

    runs_is : l.runs ≡ short e + 1
    runs_is = listing_runs e space l is

    none_is : first_met (line_conditions (Some e)) ≡ 0
    none_is = sym met_same ∙ none_met_here

    within : ends_out e ≡ false
    within = (none_met 0 (ends_out e) _ none_is).0

    few_runs : l.runs ≤ 5000
    few_runs = let f = ltb-false 5000 (short e + 1) (none_met 4 _ [] (none_met 0 (ends_out e) _ none_is).1).0 in omega (arith, runs_is)

    abbrev line_runs : List ℤ
    line_runs = list_then e []

    count : length (run_list (runs e)) ≡ 3 * l.runs
    count = rw runs_is (read_back e []).length_is

    listed_is : take (3 * l.runs) list ≡ line_runs
    unfolding line_list
    listed_is =
        rw (left ∙ ap (λ (n : ℕ). unless_refused {A = List ℤ} n (line_list e space) space) none_met_here, append-nil)
        (take_at (run_list (runs e)) (drop (3 * (short e + 1)) space) (3 * l.runs) count)

    none_is_bad : (k : ℕ) → k < l.runs → run_bad line_runs k ≡ false
    none_is_bad k h = (none_bad e [] within).good k (omega (arith, runs_is))

    same_runs : each l.runs (run_at line_runs) ≡ runs e
    same_runs = rw runs_is (each_cong (short e + 1) (run_at line_runs) (run e) (read_back e []).run_is) ∙ sym (runs-each e)

    text_told : axis_text (along l.axis 120 121) l.runs ++ run_lines (each l.runs (run_at line_runs)) ≡ told (print_answer (Some e))
    unfolding axis_line
    text_told = rw (told_line e, none_is, same_runs, axis_is, runs_is)

    line_printable : Printable (Some e) l (take (3 * l.runs) list)
    line_printable = rw listed_is (record { few = few_runs; number = rw append-nil (omega (arith, count)); good = none_is_bad; text = text_told })

-- what listing an input answers says what is printed for its line, or that there is none
pub told_refused : (line : Option Ends) (space list : List ℤ) → list ≡ input_after line space → length space ≡ 15000 → (q : Refusal)
    → ◌≡◌ {A = Answer Listing} (turned_away q) (input_answer line space) → told (print_answer line) ≡ refused_line (number q)
told_refused None space list left size q is = told_none ∙ ap refused_line (sym (ap number_of is) ∙ number_is Listing q)
told_refused (Some e) space list left size q is = line_refused e space list size left q is

pub printable : (line : Option Ends) (space list : List ℤ) → list ≡ input_after line space → length space ≡ 15000 → (l : Listing)
    → ◌≡◌ {A = Answer Listing} (given l) (input_answer line space) → Printable line l (take (3 * l.runs) list)
printable None space list left size l is = absurd (omega (arith, ap number_of is))
printable (Some e) space list left size l is = line_printable e space list size left l is

-- ---- what is read decides what is printed

pub printed_is : (input : List ℕ) → printed input ≡ told (print_answer (line_of input))
unfolding printed
printed_is input = refl

pub printed_bad : (input : List ℕ) → line_of input ≡ None → printed input ≡ refused_line 9
printed_bad input q = printed_is input ∙ ap (λ (line : Option Ends). told (print_answer line)) q ∙ told_none

-- ---- every printed text has room

met_small : (a b : Bool) → first_met ((1, a) ∷ (5, b) ∷ []) < 10
unfolding first_met
met_small true b = omega arith
met_small false true = omega arith
met_small false false = omega arith

module _ (e : Ends) (few : short e + 1 ≤ 5000) where
  axis-part : length (axis_line e) ≤ 18
  unfolding axis_line
  axis-part = axis_line-length (along (axis e) 120 121) (short e + 1) (omega arith)

  runs-part : ends_out e ≡ false → length (run_lines (runs e)) ≤ 20 * (short e + 1)
  runs-part p =
      let back = each_cong (short e + 1) (run_at (list_then e [])) (run e) (read_back e []).run_is in
      rw (runs-each e, sym back) (lines_length (list_then e []) (short e + 1) (none_bad e [] p).good)

  list_length : ends_out e ≡ false → length (axis_line e ++ run_lines (runs e)) ≤ 110000
  list_length p =
      let a = axis-part in
      let b = runs-part p in
      let both = length-append (axis_line e) (run_lines (runs e)) in omega arith

told-length : (e : Ends) (n : ℕ) → first_met (line_conditions (Some e)) ≡ n → length (told (answer n (list_text (Some e)))) ≤ 110000
told-length e zero q =
    let rest = none_met 0 (ends_out e) _ q in
    list_length e (ltb-false 5000 (short e + 1) (none_met 4 _ [] rest.1).0) rest.0
told-length e (suc n) q =
    let s = met_small (ends_out e) (ltb 5000 (short e + 1)) in
    let l = refused_line-length (suc n) (omega arith) in omega arith

pub printed-length : (input : List ℕ) → length (printed input) ≤ 110000
printed-length input = rw (printed_is input) (go (line_of input))
  where
    go : (line : Option Ends) → length (told (print_answer line)) ≤ 110000
    go None = let l = refused_line-length 9 (omega arith) in rw told_none (omega arith)
    go (Some e) = rw (told_line e) (told-length e (first_met (line_conditions (Some e))) refl)

-- what was written can be taken from the output
pub answer_fits : (input entry exit : List ℕ) (end : ℕ) → end ≡ cond (ltb (length entry) 110000) 0 (length (printed input))
    → exit ≡ cond (ltb (length entry) 110000) entry (written 0 (printed input) entry) → end ≤ length exit
answer_fits input entry exit end p q = ⊎_elim small large (tell (ltb (length entry) 110000))
  where
    small : ltb (length entry) 110000 ≡ true → end ≤ length exit
    small t = let e = rw t at p in omega arith

    large : ltb (length entry) 110000 ≡ false → end ≤ length exit
    large t =
        let e = rw t at p in
        let l = printed-length input in
        let m = ltb-false (length entry) 110000 t in
        let same = ap length (rw t at q) ∙ length-written 0 (printed input) entry (omega arith) in omega arith
