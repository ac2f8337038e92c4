-- The numbers of an accepted table rise, and none is above the last one.
use Prim.Native.Nat.{ℕ, ◌-◌, ◌*◌, ◌<◌, suc}
use mathlib.Core.Path.{◌≡◌, ap, ap₂, ◌∙◌}
use native.Mathlib.Numerals.{add-one}
use native.Mathlib.Omega.{arith}
use lib.ListN.{length}
use borrow.Author.Tests.{lt-ltb, le-ltb}
use Rattle.std.specs.Prelude.{Option, Some}
use Rattle.reel.specs.Reel.{records_before}
use Rattle.reel.specs.Reading.{numbers}
use Rattle.reel.specs.declared.find.FramePart.{FramePart}
use Rattle.reel.proofs.Tables.{Frame, frame, numbers-length}
use Rattle.reel.proofs.file.ReelFile.part_of.Goals.{After-records_before-end}
use Rattle.reel.proofs.file.ReelFile.part_of.Goals as goal

pub returns-then-self-k : goal.returns-then-self-k
returns-then-self-k c = let t = numbers c.args.self.table.now in
    rw (le-ltb c.args.frame (length t) (omega (arith, numbers-length c.args.self.table.now)))

part : ℕ → ℕ → Option FramePart
part a b = Some (record { place = 8 * a; len = 8 * (b - a) })

module _ (c : After-records_before-end) where
  abbrev k : ℕ
  k = c.args.frame

  inside : k < length (numbers c.args.self.table.now)
  inside = omega (arith, numbers-length c.args.self.table.now)

  facts : Frame (numbers c.args.self.table.now) c.args.self.level (omega (arith, c.args.self.last, c.args.self.few)) k inside
  facts = frame (numbers c.args.self.table.now) c.args.self.level (omega (arith, c.args.self.last, c.args.self.few)) k inside

  end_is : c.records_before-end.result ≡ records_before (numbers c.args.self.table.now) (suc k)
  end_is = c.records_before-end.ensures ∙ ap (records_before (numbers c.args.self.table.now)) (add-one k)

pub overflow_mul-result : goal.overflow_mul-result
overflow_mul-result c = record { fits = omega (arith, c.records_before-from.ensures, end_is c, (facts c).rising, (facts c).most) }

pub overflow_sub-result : goal.overflow_sub-result
overflow_sub-result c = omega (arith, c.records_before-from.ensures, end_is c, (facts c).rising)

pub overflow_mul-result-2 : goal.overflow_mul-result-2
overflow_mul-result-2 c = record { fits = omega (arith, end_is c, (facts c).most) }

pub returns : goal.returns
unfolding part
returns c = let t = numbers c.args.self.table.now in
    rw (lt-ltb c.args.frame (length t) (inside c)) (ap₂ part c.records_before-from.ensures (end_is c))
