-- The last run completes the list.
use Prim.Native.Nat.{ℕ, ◌+◌, ◌-◌, ◌≤◌}
use mathlib.Core.Path.{◌≡◌, ◌∙◌}
use mathlib.Core.List.{List}
use lib.IntN.{ℤ}
use native.Mathlib.Omega.{arith}
use lib.ListN.{length, take, drop, length-drop}
use lib.Seq.{length-take-le}
use Rattle.line_list.proofs.Listing.{begun_on, begun_all, begun_length, last_spans}
use Rattle.line_list.proofs.list.list_all.Goals as goal

-- any three places
three : (from to : ℕ) (list : List ℤ) → to ≡ from + 3 → to ≤ length list → length (take (to - from) (drop from list)) ≡ 3
three from to list e l = length-take-le (to - from) (drop from list) (omega (arith, length-drop from list)) ∙ omega arith

pub put_run-requires : goal.put_run-requires
put_run-requires c =
    let long = begun_length (record { list_is = c.list_but_last-start.ensures.list_after }) (omega (arith, c.requires)) in
    (last_spans c.args.line _ c.list_but_last-start.ensures.step, three _ _ c.list_but_last-start.new.list (omega arith) (omega (arith, long, c.requires)))

pub returns : goal.returns
returns c =
    begun_all (begun_on (record { list_is = c.list_but_last-start.ensures.list_after }) c.put_run.new.places c.put_run.ensures _ (omega arith))
    (omega (arith, c.args.line.traced.short_is))
