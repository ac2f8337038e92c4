-- The numbers are read one after the other, and tested until two of them are out of order.
use Prim.Native.Nat.{ℕ, ◌*◌, ◌/◌}
use mathlib.Core.Path.{refl, ap, ◌∙◌}
use native.Mathlib.Omega.{arith}
use lib.ListN.{length}
use Rattle.std.proofs.Common.{rules}
use Rattle.std.proofs.lemmas.Iterator.{YieldsList-from_range, YieldsList-from_map}
use Rattle.std.proofs.lemmas.Iterator.Consumers.{YieldsList-at}
use Rattle.reel.specs.Numbers.{number_at}
use Rattle.reel.specs.Reel.{falls}
use Rattle.reel.proofs.Chains.{run_rises_is, numbers_read}
use Rattle.reel.proofs.table.falls.Goals as goal

pub returns : goal.returns
returns c = let s = c.args.table.now in
    let n = length s / 4 in
    let number = λ (k : ℕ). number_at 4 s (4 * k) in
    run_rises_is (YieldsList-from_map _ number (YieldsList-at c.map.ensures.source (YieldsList-from_range 0 n n refl (omega arith))) c.map.ensures.closure (λ x r q k. search rules)) c.is_sorted.result c.is_sorted.ensures.runs
    ∙ ap falls (numbers_read s)
