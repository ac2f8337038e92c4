-- At place k the runs below it are lawful.
use Rattle.runs.proofs.Painting.{LawfulTo}
use Rattle.runs.proofs.paint.check_runs.Given as goal

abbrev pub invariant-loop-k : goal.invariant-loop-k
invariant-loop-k l = LawfulTo l.list l.k
