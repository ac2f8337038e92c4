-- Frame 0 has none before it; else the number of the frame before says it.
use mathlib.Core.Path.{sym, ◌∙◌}
use Prim.Native.Nat.{◌-◌}
use native.Mathlib.Omega.{arith}
use Rattle.reel.specs.Reading.{numbers}
use Rattle.reel.proofs.Tables.{before_number, numbers-at}
use Rattle.reel.proofs.table.records_before.Goals as goal

pub returns : goal.returns
returns c = let a = c.args in
    c.word.ensures ∙ sym (numbers-at a.table.now (a.k - 1) (omega arith)) ∙ before_number (numbers a.table.now) a.k (omega arith)
