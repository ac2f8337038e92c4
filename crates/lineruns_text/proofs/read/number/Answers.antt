-- A word that begins with a minus is the negative of the digits behind it, and any other is its digits.
use Rattle.std.proofs.Common.{arith, [], ◌∷◌}
use Rattle.std.proofs.lemmas.Grind.{common_steps}
use Rattle.std.proofs.lemmas.Int.{ints}
use Rattle.std.proofs.lemmas.Bool.Decides.{Decides-eqb}
use Rattle.std.proofs.lemmas.Slice.Eq.{strip_prefix_is}
use Rattle.lineruns_text.proofs.Numbers.{Told, number_told}
use Rattle.lineruns_text.proofs.read.number.Goals.{After-strip_prefix}
use Rattle.lineruns_text.proofs.read.number.Goals as goal

told : (c : After-strip_prefix) → Told c.args.word.now c.strip_prefix.result
told c = number_told c.args.word.now c.strip_prefix.result (strip_prefix_is Decides-eqb c.args.word.now (45 ∷ []) c.strip_prefix.result c.strip_prefix.ensures.cases)

pub returns-in_err-digits-in-Some : goal.returns-in_err-digits-in-Some
returns-in_err-digits-in-Some c =
    let t = rw c.in-Some.is at (told (goal.at.returns-in_err-digits-in-Some c).After-strip_prefix) in
    let d = c.in_err-digits-in-Some.ensures in grind (arith, common_steps, ints)

pub returns-in_ok-digits-in-Some : goal.returns-in_ok-digits-in-Some
returns-in_ok-digits-in-Some c =
    let t = rw c.in-Some.is at (told (goal.at.returns-in_ok-digits-in-Some c).After-strip_prefix) in
    let d = c.in_ok-digits-in-Some.ensures in grind (arith, common_steps, ints)

pub returns-in_err-digits-in-None : goal.returns-in_err-digits-in-None
returns-in_err-digits-in-None c =
    let t = rw c.in-None.is at (told (goal.at.returns-in_err-digits-in-None c).After-strip_prefix) in
    let d = c.in_err-digits-in-None.ensures in grind (arith, common_steps, ints)

pub returns-in_ok-digits-in-None : goal.returns-in_ok-digits-in-None
returns-in_ok-digits-in-None c =
    let t = rw c.in-None.is at (told (goal.at.returns-in_ok-digits-in-None c).After-strip_prefix) in
    let d = c.in_ok-digits-in-None.ensures in grind (arith, common_steps, ints)
