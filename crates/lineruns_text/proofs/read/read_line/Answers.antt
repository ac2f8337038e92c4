-- At most one newline at the end is left out.
use Rattle.std.proofs.Common.{rules, arith, ℕ, List, [], ◌∷◌, Bor, ap, ◌∙◌}
use Rattle.std.proofs.lemmas.Grind.{common_steps}
use Rattle.std.proofs.lemmas.Bool.Decides.{Decides-eqb}
use Rattle.std.proofs.lemmas.Slice.Eq.{strip_suffix_is}
use Rattle.lineruns_text.specs.Reading.{line_of}
use Rattle.lineruns_text.proofs.Unended.{unwrapped}
use Rattle.lineruns_text.proofs.read.read_line.Goals as goal

pub returns-then-input-gt-LONGEST_INPUT : goal.returns-then-input-gt-LONGEST_INPUT
unfolding line_of
returns-then-input-gt-LONGEST_INPUT c = search rules

pub returns : goal.returns
unfolding line_of
returns c =
    let text = c.args.input in
    let u = unwrapped text c.strip_suffix.result (strip_suffix_is Decides-eqb text.now (10 ∷ []) c.strip_suffix.result c.strip_suffix.ensures.cases) in
    let same = ap (λ (x : Bor (List ℕ)). x.now) c.unwrap_or.ensures ∙ u in grind (arith, common_steps)
