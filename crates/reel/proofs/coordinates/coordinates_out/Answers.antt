-- The test of each number below their count is the definition's.
use Prim.Native.Nat.{ℕ, ◌/◌}
use mathlib.Core.Path.{refl, sym, ap, ◌∙◌}
use lib.IntN.{pos}
use native.Mathlib.Omega.{arith}
use lib.ListN.{length, get_or}
use borrow.Author.Tests.{tests}
use Rattle.std.proofs.Common.{rules}
use Rattle.std.proofs.lemmas.Iterator.{YieldsList-from_range}
use Rattle.std.proofs.lemmas.Iterator.Search.{any_from_yields_List}
use Rattle.counting.specs.Count.{any}
use Rattle.coordinate.specs.Coordinate.{out_of_range}
use Rattle.reel.specs.Reel.{coordinates_out, coordinates}
use Rattle.reel.proofs.Records.{coordinates-length}
use Rattle.reel.proofs.Chains.{range_any_is}
use Rattle.reel.proofs.coordinates.coordinates_out.Goals as goal

pub returns : goal.returns
unfolding coordinates_out
returns c = let s = c.args.bytes.now in
    let n = length s / 2 in
    let out = λ (k : ℕ). out_of_range (get_or (coordinates s) k (pos 0)) in
    any_from_yields_List out _ _ c.any.result c.any.ensures.ran (YieldsList-from_range 0 n n refl (omega arith)) (λ x b q k. search (rules, tests))
    ∙ range_any_is n out
    ∙ ap (λ (m : ℕ). any m out) (sym (coordinates-length s))
