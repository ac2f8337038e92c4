-- Before run k the list has the runs before it, and the numbers are run k's first step and the start of the run after it.
use Rattle.line_list.proofs.Listing.{Begun, Standing}
use Rattle.line_list.proofs.list.list_but_last.Given as goal

abbrev pub invariant-loop-k : goal.invariant-loop-k
invariant-loop-k l = Begun l.line.ends l.initial.list l.list l.k × Standing l.line l.k l.step l.next
