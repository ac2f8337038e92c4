-- At place k the runs below it are lawful.
use Rattle.std.proofs.Common.{◌≡◌, ◌/◌, sym, ap, ◌∙◌, arith, length}
use borrow.Author.Count.{below_more}
use Rattle.runs.specs.Parts.{stored_at, bad_run}
use Rattle.runs.proofs.Painting.{found_bad, found_none}
use Rattle.runs.proofs.Counted.{stored_chunk}
use Rattle.runs.proofs.paint.check_runs.Goals.{After-run_bad}
use Rattle.runs.proofs.paint.check_runs.Goals as goal

-- what the test says of the run at k
module _ (c : After-run_bad) where
  tested : c.run_bad.result ≡ bad_run (stored_at c.args.list.now c.loop-k.k)
  tested =
      c.run_bad.ensures
      ∙ ap bad_run (c.from.ensures ∙ stored_chunk c.args.list.now _ c.loop-k.k c.as_chunks.ensures.front (omega arith))

pub returns-then-run_bad : goal.returns-then-run_bad
returns-then-run_bad c =
    found_bad c.args.list.now (length c.args.list.now / 3) c.loop-k.k (omega arith) c.loop-k.invariant
    (sym (tested (goal.at.returns-then-run_bad c).After-run_bad) ∙ c.if-run_bad.true)

pub loop-k-preserved : goal.loop-k-preserved
loop-k-preserved c = below_more _ _ c.loop-k.invariant (sym (tested (goal.at.loop-k-preserved c).After-run_bad) ∙ c.if-run_bad.false)

pub returns : goal.returns
returns c =
    let end : c.loop-k.k ≡ length c.args.list.now / 3 = omega arith in
    found_none c.args.list.now (length c.args.list.now / 3) (rw end at c.loop-k.invariant)
