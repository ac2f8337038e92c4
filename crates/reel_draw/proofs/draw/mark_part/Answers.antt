-- The part that is lent is the definition's, so the records in it are.
use mathlib.Core.Path.{refl, ap, ◌∙◌}
use native.Mathlib.Omega.{arith}
use Rattle.refusal.specs.Refusal.{first_met}
use Rattle.reel.specs.Reel.{coordinates_out}
use Rattle.reel_draw.proofs.PartLaws.{lent_records, lent_most, lent_drawn}
use Rattle.reel_draw.proofs.draw.mark_part.Goals as goal

pub invariant_of-records : goal.invariant_of-records
invariant_of-records c = let a = c.args in record {
  in_range = ap coordinates_out (lent_records a.file.now a.part) ∙ c.requires.records.1;
  few = omega (arith, lent_most a.file.now a.part);
}

pub mark_band-requires-clause-passed : goal.mark_band-requires-clause-passed
unfolding first_met
mark_band-requires-clause-passed c = (refl, c.requires.band.0)

pub returns : goal.returns
returns c = let a = c.args in
    let facts = lent_drawn a.file.now a.part a.grid.window a.band a.raster.now c.mark_band.result _ c.mark_band.ensures.value c.mark_band.ensures.raster_after in
    record { value = facts.0; raster_after = facts.1 }
