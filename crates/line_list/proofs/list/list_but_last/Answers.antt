-- Before run k the list has the runs before it, and the numbers are run k's first step and the start of the run after it.
use Prim.Native.Nat.{◌≤◌}
use mathlib.Core.Path.{sym}
use native.Mathlib.Omega.{arith}
use Rattle.interpolation.proofs.RunLaws.{first-zero}
use Rattle.line_list.proofs.Listing.{begun_none, begun_on, three_places, standing_first, standing_on, standing_spans}
use Rattle.line_list.proofs.list.list_but_last.Goals.{In-loop-k}
use Rattle.line_list.proofs.list.list_but_last.Goals as goal

pub returns-then-short-eq0 : goal.returns-then-short-eq0
returns-then-short-eq0 c = record {
  step = rw c.if-short-eq0.true (sym (first-zero _ _ _));
  list_after = rw c.if-short-eq0.true (begun_none _ _).list_is;
}

pub loop-k-init : goal.loop-k-init
loop-k-init c =
    (begun_none c.args.line.ends c.args.list.now, standing_first c.args.line (omega (arith, c.if-short-eq0.false)) c.next_start-next.ensures)

-- run k is not the last
module _ (c : In-loop-k) where
  some : 1 ≤ c.args.line.slope.short
  some = omega (arith, c.if-short-eq0.false)

pub put_run-requires : goal.put_run-requires
put_run-requires c = let i = (goal.at.put_run-requires c).In-loop-k in (
  standing_spans c.args.line (some i) c.loop-k.invariant.1 c.loop-k-test.true,
  three_places c.loop-k.invariant.0 (omega (arith, c.requires, c.loop-k-test.true)) _ (omega arith),
)

pub loop-k-preserved : goal.loop-k-preserved
loop-k-preserved c = let i = (goal.at.loop-k-preserved c).In-loop-k in (
  begun_on c.loop-k.invariant.0 c.put_run.new.places c.put_run.ensures _ (omega arith),
  standing_on c.args.line (some i) c.loop-k.invariant.1 c.loop-k-test.true c.next_start-next-in-loop-k.ensures,
)
