-- The list begins with the line's runs, so none of them is bad, and painting them marks the line's pixels.
use Prim.Native.Nat.{ℕ, ◌+◌, ◌*◌}
use mathlib.Core.Path.{◌≡◌, refl, ap, ap₂}
use mathlib.Core.List.{List}
use native.Mathlib.Omega.{arith}
use lib.IntN.{ℤ}
use lib.ListN.{length, take, length-take}
use Rattle.refusal.specs.Refusal.{first_met}
use Rattle.raster.specs.Window.{frame_conditions}
use Rattle.raster.proofs.Frames.{frame_met}
use Rattle.raster.proofs.Grids.{grid_frame}
use Rattle.line.specs.Line.{axis, short}
use Rattle.line.proofs.Pixels.{short_le, long_max}
use Rattle.line_list.specs.Listing.{listing}
use Rattle.both_ways.proofs.BothLaws.{part_room, part_good, part_few, part_counts, part_leaves}
use Rattle.both_ways.proofs.draw.draw_listed.Goals.{Start}
use Rattle.both_ways.proofs.draw.draw_listed.Goals as goal

-- the runs that are lent to the painter's work
module _ (c : Start) where
  abbrev part : List ℤ
  part = take (3 * c.args.listing.runs) c.args.list.now

  cut : part ≡ take (3 * (short c.args.ends + 1)) c.args.list.now
  cut = ap (λ (n : ℕ). take (3 * n) c.args.list.now) c.requires.listed.2

  passed : first_met (frame_conditions c.args.grid.window (length c.args.painted.now)) ≡ 0
  passed = frame_met _ _ (grid_frame c.args.grid _ c.requires.room)

pub slice_bounds-runs-end : goal.slice_bounds-runs-end
slice_bounds-runs-end c =
    let r = c.requires.listed in
    let fits = part_room c.args.ends r.0 c.args.list.now r.3.0 r.3.1 c.args.listing.axis r.1 _ (cut (goal.at.slice_bounds-runs-end c).Start) in
    omega (arith, r.2, fits, length-take (3 * c.args.listing.runs) c.args.list.now)

pub invariant_of-runs : goal.invariant_of-runs
invariant_of-runs c =
    let r = c.requires.listed in
    let s = (goal.at.invariant_of-runs c).Start in
    record {
      none_bad = part_good c.args.ends r.0 c.args.list.now r.3.0 r.3.1 c.args.listing.axis r.1 _ (cut s);
      few = part_few c.args.ends r.0 c.args.list.now r.3.0 r.3.1 c.args.listing.axis r.1 _ (cut s) (omega (arith, short_le c.args.ends, long_max c.args.ends r.0));
    }

pub mark-counts-requires : goal.mark-counts-requires
unfolding first_met
mark-counts-requires c = (refl, c.requires.room)

pub returns : goal.returns
returns c =
    let a = c.args in
    let r = c.requires.listed in
    let s = (goal.at.returns c).Start in
    let counts_are = part_counts a.ends r.0 a.list.now r.3.0 r.3.1 a.listing.axis r.1 _ (cut s) a.grid.window a.painted.now (passed s) _ c.mark-counts.ensures.value in
    let listing_is : a.listing ≡ listing (axis a.ends) (short a.ends + 1) = ap₂ listing r.1 r.2 in record {
      answered = cc;
      painted_after = part_leaves a.ends r.0 a.list.now r.3.0 r.3.1 a.listing.axis r.1 _ (cut s) a.grid.window a.painted.now (passed s) _ c.mark-counts.ensures.raster_after;
      banded_after = c.draw_bands-calls.ensures.raster_after;
    }
