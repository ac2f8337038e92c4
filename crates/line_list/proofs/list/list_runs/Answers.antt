-- Each return is a case of the law of what the lister answers and leaves.
use Prim.Native.Nat.{◌+◌}
use mathlib.Core.Path.{◌≡◌, ap, ◌∙◌}
use mathlib.Core.Bool.{false}
use mathlib.Core.List.{[]}
use native.Mathlib.Omega.{arith}
use Rattle.refusal.proofs.Conditions.{none_met}
use Rattle.refusal.proofs.Handing.{passed, err_is}
use Rattle.line.specs.Line.{short, axis, ends_out}
use Rattle.line.specs.declared.ends.Ends.{Ends}
use Rattle.line_list.specs.Listing.{line_list}
use Rattle.line_list.proofs.Listing.{listed_refused, listed-short, listed_all}
use Rattle.line_list.proofs.list.list_runs.Goals.{After-line_of-line, In_ok-check}
use Rattle.line_list.proofs.list.list_runs.Goals as goal

pub returns-in_err-check : goal.returns-in_err-check
returns-in_err-check c =
    let facts = listed_refused c.args.ends c.args.list.now c.in_err-check.field-0.0 c.in_err-check.ensures in
    record { answered = err_is _ _ c.from_residual.ensures.1 ∙ facts.0; list_after = facts.1 }

-- the ends are within the limits
module _ (c : In_ok-check) where
  within : ends_out c.args.ends ≡ false
  within = (none_met 0 (ends_out c.args.ends) [] (passed _ _ c.in_ok-check.ensures)).0

pub line_of-line-requires : goal.line_of-line-requires
line_of-line-requires c = within c

-- the line is that of the ends
module _ (c : After-line_of-line) where
  short_is : c.line_of-line.result.slope.short ≡ short c.args.ends
  short_is = c.line_of-line.result.traced.short_is ∙ ap short c.line_of-line.ensures

  axis_is : c.line_of-line.result.axis ≡ axis c.args.ends
  axis_is = c.line_of-line.result.traced.axis_is ∙ ap axis c.line_of-line.ensures

pub returns-then-list-runs : goal.returns-then-list-runs
returns-then-list-runs c =
    let facts = listed-short c.args.ends c.args.list.now (within (goal.at.returns-then-list-runs c).In_ok-check)
    (omega (arith, c.if-list-runs.true, short_is (goal.at.returns-then-list-runs c).After-line_of-line)) in
    record { answered = facts.0; list_after = facts.1 }

pub returns : goal.returns
returns c =
    let line = (goal.at.returns c).After-line_of-line in
    let facts =
    listed_all c.args.ends c.args.list.now (within (goal.at.returns c).In_ok-check) (omega (arith, c.if-list-runs.false, short_is line))
    c.line_of-line.result.axis (c.line_of-line.result.slope.short + 1) c.list_all.new.list (axis_is line)
    (omega (arith, short_is line))
    (c.list_all.ensures ∙ ap (λ (e : Ends). line_list e c.args.list.now) c.line_of-line.ensures) in
    record { answered = facts.0; list_after = facts.1 }
