-- After k turns the first k lines are in place, none longer than 20 bytes.
use Rattle.std.proofs.Common.{arith}
use Rattle.runs.specs.Painting.{run_at}
use Rattle.lineruns_text.proofs.Placing.{both, nothing}
use Rattle.lineruns_text.proofs.RunLines.{lines_none, lines_more, pixels_fit, handed_is, line_length}
use Rattle.lineruns_text.proofs.text.Text.push_runs.Goals as goal

pub loop-across-init : goal.loop-across-init
loop-across-init c = (rw (lines_none (run_at c.args.list.now)) (nothing c.args.self.now (omega arith)), omega arith)

pub overflow_cast-pixels : goal.overflow_cast-pixels
overflow_cast-pixels c =
    let k = c.loop-across.across-index in
    rw (c.as_chunks.ensures.front) (pixels_fit c.args.list.now k (omega arith) (c.requires.good k (omega arith)))

pub push_run-requires : goal.push_run-requires
push_run-requires c =
    let k = c.loop-across.across-index in
    let good = c.requires.good k (omega arith) in
    rw (c.as_chunks.ensures.front, handed_is c.args.list.now k (omega arith) good)
    (omega (arith, line_length c.args.list.now k good))

pub loop-across-preserved : goal.loop-across-preserved
loop-across-preserved c =
    let k = c.loop-across.across-index in
    let good = c.requires.good k (omega arith) in
    let line = rw (c.as_chunks.ensures.front, handed_is c.args.list.now k (omega arith) good) at c.push_run.ensures in (
      rw (lines_more k (run_at c.args.list.now)) (both c.loop-across.invariant.0 line),
      omega (arith, line.len, line_length c.args.list.now k good),
    )
