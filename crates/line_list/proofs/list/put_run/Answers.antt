-- The three numbers are the run's, each a number that its place in the list holds.
use Prim.Native.Nat.{ℕ, ◌-◌, ◌<◌}
use mathlib.Core.Path.{◌≡◌, sym, ap, ◌∙◌}
use native.Mathlib.Omega.{arith}
use lib.IntN.{ℤ, pos}
use mir.Syntax.{w32}
use mir.Val.{to_z, of_z}
use mir.ValLaws.{to_z-of_z}
use Rattle.coordinate.specs.Coordinate.{unbiased}
use Rattle.coordinate.proofs.Bias.{unbiased_in, in_range_fits}
use Rattle.line_list.specs.Runs.{run}
use Rattle.line_list.proofs.Listing.{three_set, Placed, placed}
use Rattle.line_list.proofs.list.put_run.Goals.{Start}
use Rattle.line_list.proofs.list.put_run.Goals as goal

place : (c : Start) → Placed c.args.line c.args.k c.args.start c.args.end
place c = placed c.args.line c.requires.0

pub lowest_of-requires : goal.lowest_of-requires
lowest_of-requires c = rw c.along-across.ensures ((place (goal.at.lowest_of-requires c).Start).at_across.way, (place (goal.at.lowest_of-requires c).Start).at_across.room)

pub unbiased-requires : goal.unbiased-requires
unbiased-requires c = rw (c.lowest_of.ensures, c.along-across.ensures) (place (goal.at.unbiased-requires c).Start).at_across.end

pub overflow_sub-end : goal.overflow_sub-end
overflow_sub-end c = omega (arith, (place (goal.at.overflow_sub-end c).Start).some)

pub lowest_of-requires-2 : goal.lowest_of-requires-2
lowest_of-requires-2 c = let p = place (goal.at.lowest_of-requires-2 c).Start in rw c.along-long.ensures (p.at_first.way, p.at_last.room)

pub unbiased-requires-2 : goal.unbiased-requires-2
unbiased-requires-2 c = rw (c.lowest_of-2.ensures, c.along-long.ensures) (place (goal.at.unbiased-requires-2 c).Start).lowest_lt

pub overflow_sub-places : goal.overflow_sub-places
overflow_sub-places c = omega (arith, (place (goal.at.overflow_sub-places c).Start).some)

pub overflow_cast-places : goal.overflow_cast-places
overflow_cast-places c = record { sfits = omega (arith, (place (goal.at.overflow_cast-places c).Start).most) }

-- a coordinate as the list holds it
held : (v z : ℤ) (m n : ℕ) → v ≡ unbiased m → m ≡ n → z ≡ unbiased n → n < 32768 → to_z w32 (of_z w32 v) ≡ z
held v z m n e d f l =
    rw (e, d, f) (to_z-of_z w32 (unbiased n) (record { sfits = in_range_fits (unbiased n) (unbiased_in n l) }))

pub returns : goal.returns
returns c = let p = place (goal.at.returns c).Start in
    let r = run c.args.line.ends c.args.k in
    let across = held c.unbiased.result r.across c.lowest_of.result _ c.unbiased.ensures (rw c.along-across.ensures at c.lowest_of.ensures) p.across_is p.at_across.end in
    let lowest = held c.unbiased-2.result r.lowest c.lowest_of-2.result _ c.unbiased-2.ensures (rw c.along-long.ensures at c.lowest_of-2.ensures) p.lowest_is p.lowest_lt in
    let pixels = to_z-of_z w32 (pos (c.args.end - c.args.start)) (record { sfits = omega (arith, p.most) }) ∙ ap pos (sym p.pixels_is) in
    three_set c.args.places.now _ _ _ c.requires.1 ∙ rw (across, lowest, pixels)
