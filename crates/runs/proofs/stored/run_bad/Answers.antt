-- The tests are those of the run's ends.
use mathlib.Core.Path.{◌≡◌, sym, ap, ap₂, ◌∙◌}
use mathlib.Core.Bool.{false}
use Prim.Native.Nat.{ℕ, ◌+◌}
use native.Mathlib.Omega.{arith}
use lib.Dec.{ltb}
use mir.Syntax.{w32}
use mir.Val.{to_z, of_z}
use mir.Facts.{to_z-of_z}
use Rattle.coordinate.specs.Coordinate.{out_of_range, biased}
use Rattle.coordinate.proofs.Bias.{biased_lt}
use Rattle.runs.specs.Painting.{natural}
use Rattle.runs.proofs.Bad.{natural_small, bad_few, bad_across, bad_lowest, bad_end}
use Rattle.runs.proofs.stored.run_bad.Goals.{After-biased, After-natural_of-n, After-struct_told-1}
use Rattle.runs.proofs.stored.run_bad.Goals as goal

-- the run's numbers as they are handed on
module _ (c : After-struct_told-1) where
  across_is : to_z w32 (of_z w32 c.args.run.across) ≡ c.args.run.across
  across_is = to_z-of_z {w = w32} (record { sfits = c.type_inv.run.0.1 })

  lowest_is : to_z w32 (of_z w32 c.args.run.lowest) ≡ c.args.run.lowest
  lowest_is = to_z-of_z {w = w32} (record { sfits = c.type_inv.run.1.0.1 })

  pixels_is : to_z w32 (of_z w32 c.args.run.pixels) ≡ c.args.run.pixels
  pixels_is = to_z-of_z {w = w32} (record { sfits = c.type_inv.run.1.1.0.1 })

module _ (c : After-natural_of-n) where
  number_is : c.natural_of-n.result ≡ natural c.args.run.pixels
  number_is = c.natural_of-n.ensures ∙ ap natural (pixels_is (goal.at.After-natural_of-n c).After-struct_told-1)

pub returns-then-n-lt1 : goal.returns-then-n-lt1
returns-then-n-lt1 c = bad_few c.args.run (omega (arith, number_is (goal.at.returns-then-n-lt1 c).After-natural_of-n, c.if-n-lt1.true))

pub returns-then-out_of_range : goal.returns-then-out_of_range
returns-then-out_of_range c = let t = (goal.at.returns-then-out_of_range c).After-struct_told-1 in
    bad_across c.args.run (ap out_of_range (sym (across_is t)) ∙ sym c.out_of_range.ensures ∙ c.if-out_of_range.true)

pub returns-then-out_of_range-2 : goal.returns-then-out_of_range-2
returns-then-out_of_range-2 c = let t = (goal.at.returns-then-out_of_range-2 c).After-struct_told-1 in
    bad_lowest c.args.run (ap out_of_range (sym (lowest_is t)) ∙ sym c.out_of_range-2.ensures ∙ c.if-out_of_range-2.true)

pub biased-requires : goal.biased-requires
biased-requires c = sym c.out_of_range-2.ensures ∙ c.if-out_of_range-2.false

-- what is known after the tests
module _ (c : After-biased) where
  abbrev told : After-struct_told-1
  told = (goal.at.After-biased c).After-struct_told-1

  across_in : out_of_range told.args.run.across ≡ false
  across_in =
      ap out_of_range (sym (across_is told)) ∙ sym c.out_of_range.ensures ∙ c.if-out_of_range.false

  lowest_in : out_of_range told.args.run.lowest ≡ false
  lowest_in =
      ap out_of_range (sym (lowest_is told)) ∙ sym c.out_of_range-2.ensures ∙ c.if-out_of_range-2.false

  bias_is : c.biased.result ≡ biased told.args.run.lowest
  bias_is = c.biased.ensures ∙ ap biased (lowest_is told)

pub overflow_add-result : goal.overflow_add-result
overflow_add-result c = let t = told c in
    let number = number_is (goal.at.overflow_add-result c).After-natural_of-n in
    record { fits = omega (arith, bias_is c, biased_lt t.args.run.lowest (lowest_in c), number, natural_small t.args.run.pixels t.type_inv.run.1.1.0.1) }

pub returns : goal.returns
returns c = let number = number_is (goal.at.returns c).After-natural_of-n in
    ap₂ (λ (b n : ℕ). ltb 32768 (b + n)) (bias_is c) number
    ∙ bad_end (told c).args.run (omega (arith, number, c.if-n-lt1.false)) (across_in c) (lowest_in c)
