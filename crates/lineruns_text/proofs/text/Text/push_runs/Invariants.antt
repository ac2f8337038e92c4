-- After k turns the first k lines are in place, none longer than 20 bytes.
use Rattle.std.proofs.Common.{◌*◌, ◌+◌, ◌≤◌}
use Rattle.counting.specs.Count.{each}
use Rattle.runs.specs.Painting.{run_at}
use Rattle.lineruns_text.specs.Writing.{run_lines}
use Rattle.lineruns_text.specs.Written.{Appended}
use Rattle.lineruns_text.proofs.text.Text.push_runs.Given as goal

abbrev pub invariant-loop-across : goal.invariant-loop-across
invariant-loop-across l = Appended (run_lines (each l.across-index (run_at l.list))) l.initial.self l.self × (l.self.len ≤ l.initial.self.len + 20 * l.across-index)
