-- The equal-raster rule: painting and the bands both leave the start plus pixels of the line, all of them where the bands
-- take in every row.
use Prim.Native.Nat.{ℕ, ◌+◌}
use mathlib.Core.Path.{◌≡◌, refl, sym, ap, ◌∙◌}
use mathlib.Core.List.{List}
use lib.IntN.{ℤ}
use lib.ListN.{length}
use Rattle.refusal.specs.Refusal.{first_met, given, answer, unless_refused}
use Rattle.raster.specs.declared.window.Window.{Window}
use Rattle.raster.proofs.Over.{Bytes}
use Rattle.drawing.specs.Counts.{fresh_of}
use Rattle.drawing.specs.Drawing.{draw_conditions, draw_counts, draw_raster}
use Rattle.drawing.specs.Calls.{after_bands}
use Rattle.drawing.specs.ByBands.{ByBands}
use Rattle.drawing.specs.declared.band.Band.{Band}
use Rattle.drawing.proofs.ByBands.{by_bands}
use Rattle.runs.specs.Painting.{paint_answer, paint_after}
use Rattle.interpolation.proofs.Facts.{half_pixel}
use Rattle.line.specs.Line.{short, axis}
use Rattle.line.specs.Distance.{distance}
use Rattle.line.specs.Figure.{line_figure}
use Rattle.line.specs.declared.ends.Ends.{Ends}
use Rattle.line.proofs.Drawable.{line_drawable}
use Rattle.line.proofs.PixelFacts.{long_coordinate, short_coordinate}
use Rattle.line.proofs.Pixels.{short_le, rounding}
use Rattle.line_list.specs.Listing.{list_conditions, line_list, list_after, listing}
use Rattle.line_list.proofs.RunPixels.{lengths}
use Rattle.line_list.proofs.RunFacts.{runs_are_line, listed_and_painted}
use Rattle.both_ways.specs.EqualRaster.{EqualRaster}

module _ (e : Ends) (w : Window) (s : List ℕ) (list : List ℤ) (bands : List Band)
    (lawful : first_met (draw_conditions (line_figure e) w (length s)) ≡ 0) (room : first_met (list_conditions e (length list)) ≡ 0) (bytes : Bytes s) where
  listed_so : list_after e list ≡ line_list e list
  listed_so = ap (λ (n : ℕ). unless_refused n (line_list e list) list) room

  -- what the painter answers is what a drawer answers
  painted_answer : (listed : List ℤ) → listed ≡ line_list e list → paint_answer (axis e) (short e + 1) listed w s ≡ given (draw_counts (line_figure e) w s)
  painted_answer listed p = rw p (listed_and_painted e list w s lawful).answer_is

  -- whatever holds these three buffers as the operations leave them
  pub equal_rasters : (listed : List ℤ) (painted banded : List ℕ) → listed ≡ line_list e list → painted ≡ draw_raster (line_figure e) w s
      → banded ≡ after_bands (line_figure e) w s bands → EqualRaster e w s list bands listed painted banded
  unfolding line_list distance
  equal_rasters listed painted banded p q r =
      let banding : ByBands (line_figure e) w s bands banded = by_bands (line_figure e) (line_drawable e) w s bands lawful bytes banded r in
      record {
        lister_answers = ap (λ (n : ℕ). answer n (listing (axis e) (short e + 1))) room;
        listed_is = p;
        runs_are_line = runs_are_line e;
        painter_answers = painted_answer listed p;
        painted_is = q;
        by_bands = banding;
        equal = λ all. q ∙ sym (banding.whole all);
        fresh_of_painter = λ all.
            banding.fresh_of_whole all
            ∙ ap (λ (n : ℕ). fresh_of (answer n (draw_counts (line_figure e) w s))) lawful
            ∙ ap fresh_of (sym (painted_answer listed p));
        half_pixel = (half_pixel (short_le e) (rounding e)).half_pixel;
        long_coordinate = long_coordinate e;
        short_coordinate = short_coordinate e;
        runs_alike = (lengths e).alike;
      }

  -- the rule, of what the contracts of lister, painter and band drawer say
  pub equal_raster : EqualRaster e w s list bands (list_after e list) (paint_after (axis e) (short e + 1) (list_after e list) w s) (after_bands (line_figure e) w s bands)
  equal_raster =
      equal_rasters _ _ _ listed_so (rw listed_so (listed_and_painted e list w s lawful).raster_is) refl
