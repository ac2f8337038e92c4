-- Each step adds at most one pixel to the counts.
use Prim.Native.Nat.{◌≤◌}
use Rattle.known_lines.proofs.second.draw.Given as goal

abbrev pub invariant-loop-i : goal.invariant-loop-i
invariant-loop-i l = (l.count ≤ l.i) × (l.fresh ≤ l.i)
