-- None of a record's ends is out of range, so its line can be drawn.
use mathlib.Core.Path.{◌≡◌, ap, ◌∙◌}
use native.Mathlib.Omega.{arith}
use Rattle.drawing.specs.Drawing.{draw_counts, draw_raster}
use Rattle.line.specs.Figure.{line_figure}
use Rattle.line.specs.declared.ends.Ends.{Ends}
use Rattle.line.proofs.Drawable.{ends_met}
use Rattle.reel.specs.Reel.{coordinates}
use Rattle.reel_draw.specs.Records.{record_line}
use Rattle.reel_draw.proofs.RecordLaws.{record_in, records_in_bytes}
use Rattle.reel_draw.proofs.records.Records.mark_line.Goals.{After-new}
use Rattle.reel_draw.proofs.records.Records.mark_line.Goals as goal

-- the line that is made is the record's
module _ (c : After-new) where
  line_is : c.new.result.ends ≡ record_line (coordinates c.args.self.bytes.now) c.args.k
  line_is = c.new.ensures ∙ c.line.ensures

pub mark-requires : goal.mark-requires
mark-requires c =
    let in_range = record_in (coordinates c.args.self.bytes.now) c.args.self.in_range c.args.k (omega (arith, records_in_bytes c.args.self.bytes.now, c.requires.0)) in
    (ends_met c.new.result.ends (rw (line_is (goal.at.mark-requires c).After-new) in_range), c.requires.1)

pub returns : goal.returns
returns c =
    let is = line_is (goal.at.returns c).After-new in record {
      value = c.mark.ensures.value ∙ ap (λ (e : Ends). draw_counts (line_figure e) c.args.grid.window c.args.raster.now) is;
      raster_after = c.mark.ensures.raster_after ∙ ap (λ (e : Ends). draw_raster (line_figure e) c.args.grid.window c.args.raster.now) is;
    }
