-- The raster is the one after the calls made so far; the refused ones among them and their fresh pixels are added up.
use Prim.Native.Nat.{◌+◌}
use mathlib.Core.Path.{◌≡◌, sym, ap, ◌∙◌}
use native.Mathlib.Omega.{arith}
use native.Mathlib.Nat.{add-zero}
use Rattle.std.specs.Prelude.{Result, Ok, Err}
use Rattle.refusal.specs.Refusal.{answered}
use Rattle.refusal.specs.declared.refusal.Refusal.{Refusal}
use Rattle.drawing.specs.Figure.{Figure}
use Rattle.drawing.specs.Calls.{band_at}
use Rattle.drawing.specs.Band.{band_answer, band_after}
use Rattle.drawing.specs.declared.band.Band.{Band}
use Rattle.drawing.specs.declared.calls.BandCalls.{BandCalls}
use Rattle.drawing.specs.declared.counts.Counts.{Counts}
use Rattle.drawing.proofs.CallLaws.{call_of, call_refused, Called, called_none, called_on, called_few, called_all}
use Rattle.drawing.proofs.Pairs.{pair_at, pair_is}
use Rattle.drawing.proofs.calls.draw_by_bands.Given.{Over}
use Rattle.drawing.proofs.calls.draw_by_bands.Goals.{After-draw_in_band, in-Ok, in-Err}
use Rattle.drawing.proofs.calls.draw_by_bands.Goals as goal

pub loop-first-init : goal.loop-first-init
loop-first-init g c = called_none (g.D.Draw.figure c.args.drawing) (g.met.D.Draw.drawable c.args.drawing) c.args.window c.args.raster.now c.args.bands.now

-- the call at this place is made
module _ (g : Over) (c : After-draw_in_band g) where
  abbrev f : Figure
  f = g.D.Draw.figure c.args.drawing

  band_is : pair_at c.args.bands.now c.loop-first.first-index ≡ band_at c.args.bands.now c.loop-first.first-index
  band_is = pair_is c.args.bands.now c.loop-first.first-index (omega (arith, c.as_chunks.ensures.front_len))

  told : answered c.draw_in_band.result ≡ band_answer f c.args.window c.loop-first.raster (band_at c.args.bands.now c.loop-first.first-index)
  told =
      (rw c.as_chunks.ensures.front at c.draw_in_band.ensures.answered)
      ∙ ap (λ (b : Band). band_answer f c.args.window c.loop-first.raster b) band_is

  leaves : c.draw_in_band.new.raster ≡ band_after f c.args.window c.loop-first.raster (band_at c.args.bands.now c.loop-first.first-index)
  leaves =
      (rw c.as_chunks.ensures.front at c.draw_in_band.ensures.raster_after)
      ∙ ap (λ (b : Band). band_after f c.args.window c.loop-first.raster b) band_is

  called : (call : BandCalls) → call ≡ call_of (answered c.draw_in_band.result)
      → Called f c.args.window c.args.raster.now c.args.bands.now c.draw_in_band.new.raster
      (c.loop-first.refused + call.refused) (c.loop-first.fresh + call.fresh) (c.loop-first.first-index + 1)
  called call e =
      called_on f (g.met.D.Draw.drawable c.args.drawing) c.args.window c.args.raster.now c.args.bands.now c.loop-first.raster _ c.loop-first.refused c.loop-first.fresh
      c.loop-first.first-index call c.loop-first.invariant leaves (e ∙ ap call_of told)

  marked : (m : Counts) → c.draw_in_band.result ≡ Ok m
      → Called f c.args.window c.args.raster.now c.args.bands.now c.draw_in_band.new.raster
      c.loop-first.refused (c.loop-first.fresh + m.fresh) (c.loop-first.first-index + 1)
  marked m e =
      rw add-zero at (called (record { refused = 0; fresh = m.fresh }) (ap (λ (x : Result Counts Refusal). call_of (answered x)) (sym e)))

  refused : (r : Refusal) → c.draw_in_band.result ≡ Err r
      → Called f c.args.window c.args.raster.now c.args.bands.now c.draw_in_band.new.raster
      (c.loop-first.refused + 1) c.loop-first.fresh (c.loop-first.first-index + 1)
  refused r e =
      rw add-zero at (called (record { refused = 1; fresh = 0 }) (sym (call_refused r) ∙ ap (λ (x : Result Counts Refusal). call_of (answered x)) (sym e)))

pub overflow_add-fresh : goal.overflow_add-fresh
overflow_add-fresh g c =
    let m = marked g (goal.at.overflow_add-fresh g c).After-draw_in_band c.in-Ok.counts c.in-Ok.is in record {
      fits = omega (
        arith,
        called_few (g.D.Draw.figure c.args.drawing) (g.met.D.Draw.drawable c.args.drawing) c.args.window c.args.raster.now c.args.bands.now
            (λ i _. (c.slice_known-1.given i).fits) m,
      );
    }

pub loop-first-preserved : goal.loop-first-preserved
loop-first-preserved g c =
    let call = (goal.at.loop-first-preserved g c).After-draw_in_band in
    elim c.match-draw_in_band.branch [
      | in-Ok w ↦ rw (w.refused-is, w.fresh-is) (marked g call w.in-Ok.counts w.in-Ok.is)
      | in-Err w ↦ rw (w.refused-is, w.fresh-is) (refused g call w.in-Err.field-0 w.in-Err.is)
    ]

pub returns : goal.returns
returns g c = let a = c.args in
    let facts = called_all (g.D.Draw.figure a.drawing) (g.met.D.Draw.drawable a.drawing) a.window a.raster.now a.bands.now _ _ _ c.loop-first.first-index c.loop-first.invariant (omega (arith, c.as_chunks.ensures.front_len)) in
    record { value = facts.0; raster_after = facts.1 }
