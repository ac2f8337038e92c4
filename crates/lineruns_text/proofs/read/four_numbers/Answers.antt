-- Each step takes the first of the words that are left, and four words that are numbers make the line.
use Rattle.std.proofs.Common.{rules, tests, ◌≡◌, ◌∷◌, sym, ◌∙◌}
use mir.Syntax.{w32}
use mir.ValLaws.{to_z-of_z}
use Rattle.lineruns_text.specs.Reading.{words, four}
use Rattle.lineruns_text.proofs.Fours.{bad_first, bad_second, bad_third, bad_fourth, all_four}
use Rattle.lineruns_text.proofs.Splitting.{left, words_left, one_left}
use Rattle.lineruns_text.proofs.read.four_numbers.Goals.{In_ok-next, In_ok-next-2, In_ok-next-3, In_ok-next-4}
use Rattle.lineruns_text.proofs.read.four_numbers.Goals as goal

first : (c : In_ok-next) → words c.args.text.now ≡ c.in_ok-next.field-0.now ∷ left c.next.new.self.rest.now c.next.new.self.done
first c =
    words_left c.args.text.now c.split-words.result c.split-words.ensures.rest c.split-words.ensures.done
    ∙ one_left _ c.split-words.result c.next.new.self c.in_ok-next.field-0 (rw c.in_ok-next.was at c.next.ensures.steps) (λ a r q k. search (rules, tests))

second : (c : In_ok-next-2) → left c.next.new.self.rest.now c.next.new.self.done ≡ c.in_ok-next-2.field-0.now ∷ left c.next-2.new.self.rest.now c.next-2.new.self.done
second c = one_left _ c.next.new.self c.next-2.new.self c.in_ok-next-2.field-0 (rw c.in_ok-next-2.was at c.next-2.ensures.steps) (λ a r q k. search (rules, tests))

third : (c : In_ok-next-3) → left c.next-2.new.self.rest.now c.next-2.new.self.done ≡ c.in_ok-next-3.field-0.now ∷ left c.next-3.new.self.rest.now c.next-3.new.self.done
third c = one_left _ c.next-2.new.self c.next-3.new.self c.in_ok-next-3.field-0 (rw c.in_ok-next-3.was at c.next-3.ensures.steps) (λ a r q k. search (rules, tests))

fourth : (c : In_ok-next-4) → left c.next-3.new.self.rest.now c.next-3.new.self.done ≡ c.in_ok-next-4.field-0.now ∷ left c.next-4.new.self.rest.now c.next-4.new.self.done
fourth c = one_left _ c.next-3.new.self c.next-4.new.self c.in_ok-next-4.field-0 (rw c.in_ok-next-4.was at c.next-4.ensures.steps) (λ a r q k. search (rules, tests))

pub returns-in_err-x0 : goal.returns-in_err-x0
returns-in_err-x0 c =
    c.from_residual-in_err-x0.ensures ∙ sym (rw (first (goal.at.returns-in_err-x0 c).In_ok-next) (bad_first _ _ (sym c.number.ensures ∙ c.in_err-x0.was)))

pub returns-in_err-next-2 : goal.returns-in_err-next-2
unfolding four
returns-in_err-next-2 c =
    let end = rw c.in_err-next-2.was at c.next-2.ensures.steps in
    c.from_residual-in_err-next-2.ensures ∙ sym (rw (first (goal.at.returns-in_err-next-2 c).In_ok-next, end.0))

pub returns-in_err-y0 : goal.returns-in_err-y0
returns-in_err-y0 c =
    c.from_residual-in_err-y0.ensures ∙ sym (rw (first (goal.at.returns-in_err-y0 c).In_ok-next, second (goal.at.returns-in_err-y0 c).In_ok-next-2) (bad_second _ _ _ (sym c.number-2.ensures ∙ c.in_err-y0.was)))

pub returns-in_err-next-3 : goal.returns-in_err-next-3
unfolding four
returns-in_err-next-3 c =
    let end = rw c.in_err-next-3.was at c.next-3.ensures.steps in
    c.from_residual-in_err-next-3.ensures ∙ sym (rw (first (goal.at.returns-in_err-next-3 c).In_ok-next, second (goal.at.returns-in_err-next-3 c).In_ok-next-2, end.0))

pub returns-in_err-x1 : goal.returns-in_err-x1
returns-in_err-x1 c =
    c.from_residual-in_err-x1.ensures ∙ sym (rw (first (goal.at.returns-in_err-x1 c).In_ok-next, second (goal.at.returns-in_err-x1 c).In_ok-next-2, third (goal.at.returns-in_err-x1 c).In_ok-next-3) (bad_third _ _ _ _ (sym c.number-3.ensures ∙ c.in_err-x1.was)))

pub returns-in_err-next-4 : goal.returns-in_err-next-4
unfolding four
returns-in_err-next-4 c =
    let end = rw c.in_err-next-4.was at c.next-4.ensures.steps in
    c.from_residual-in_err-next-4.ensures ∙ sym (rw (first (goal.at.returns-in_err-next-4 c).In_ok-next, second (goal.at.returns-in_err-next-4 c).In_ok-next-2, third (goal.at.returns-in_err-next-4 c).In_ok-next-3, end.0))

pub returns-in_err-y1 : goal.returns-in_err-y1
returns-in_err-y1 c =
    c.from_residual-in_err-y1.ensures ∙ sym (rw (first (goal.at.returns-in_err-y1 c).In_ok-next, second (goal.at.returns-in_err-y1 c).In_ok-next-2, third (goal.at.returns-in_err-y1 c).In_ok-next-3, fourth (goal.at.returns-in_err-y1 c).In_ok-next-4) (bad_fourth _ _ _ _ _ (sym c.number-4.ensures ∙ c.in_err-y1.was)))

pub returns-in-Some : goal.returns-in-Some
unfolding four
returns-in-Some c =
    let more = one_left _ c.next-4.new.self c.next-5.new.self c.in-Some.field-0 (rw c.in-Some.is at c.next-5.ensures.steps) (λ a r q k. search (rules, tests)) in
    sym (rw (first (goal.at.returns-in-Some c).In_ok-next, second (goal.at.returns-in-Some c).In_ok-next-2, third (goal.at.returns-in-Some c).In_ok-next-3, fourth (goal.at.returns-in-Some c).In_ok-next-4, more))

pub returns-in-None : goal.returns-in-None
returns-in-None c =
    let end = rw c.in-None.is at c.next-5.ensures.steps in
    sym (rw (first (goal.at.returns-in-None c).In_ok-next, second (goal.at.returns-in-None c).In_ok-next-2, third (goal.at.returns-in-None c).In_ok-next-3, fourth (goal.at.returns-in-None c).In_ok-next-4, end.0, to_z-of_z w32 c.in_ok-x0.x0 (search rules), to_z-of_z w32 c.in_ok-y0.y0 (search rules), to_z-of_z w32 c.in_ok-x1.x1 (search rules), to_z-of_z w32 c.in_ok-y1.y1 (search rules))
    (all_four _ _ _ _ _ _ _ _ (sym c.number.ensures ∙ c.in_ok-x0.was) (sym c.number-2.ensures ∙ c.in_ok-y0.was) (sym c.number-3.ensures ∙ c.in_ok-x1.was) (sym c.number-4.ensures ∙ c.in_ok-y1.was)))
