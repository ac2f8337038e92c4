-- The test of each coordinate is the definition's.
use mathlib.Core.Path.{◌∙◌}
use lib.IntN.{pos}
use borrow.Author.Tests.{tests}
use Rattle.std.proofs.Common.{rules}
use Rattle.std.proofs.lemmas.Iterator.{YieldsList-from_slice}
use Rattle.std.proofs.lemmas.Iterator.Search.{any_from_yields_List}
use Rattle.coordinate.specs.Coordinate.{out_of_range}
use Rattle.reel.specs.Reel.{coordinates_out}
use Rattle.reel.proofs.Chains.{list_any_is}
use Rattle.reel.proofs.marks.Marks.records_out.Goals as goal

pub returns : goal.returns
unfolding coordinates_out
returns c = let list = c.args.self.list.now in
    any_from_yields_List out_of_range _ _ c.any.result c.any.ensures.ran (YieldsList-from_slice list cc) (λ x b q k. search (rules, tests))
    ∙ list_any_is out_of_range list (pos 0)
