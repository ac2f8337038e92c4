-- From the other end a line is the same figure, with the same number of runs and the same axis.
use Prim.Native.Nat.{ℕ}
use mathlib.Core.Path.{◌≡◌, ap}
use mathlib.Core.List.{List}
use Rattle.raster.specs.declared.window.Window.{Window}
use Rattle.drawing.specs.Figure.{Figure}
use Rattle.line.specs.Line.{on_line}
use Rattle.line.specs.Exchanged.{exchanged}
use Rattle.line.specs.Figure.{line_count}
use Rattle.line.specs.declared.ends.Ends.{Ends}
use Rattle.line.proofs.Exchanged.{same_pixels}
use Rattle.both_ways.specs.Exchanged.{SameBothWays}

module _ (e : Ends) (w : Window) (s t : List ℕ) where
  pub same_both_ways : SameBothWays e w s t
  same_both_ways =
      let p = same_pixels e in
      let has : on_line (exchanged e) ≡ on_line e = ap (λ (f : Figure). f.has) p.figure_is in
      let count : line_count (exchanged e) ≡ line_count e = ap (λ (f : Figure). f.count) p.figure_is in
      record { both_met_lem = λ list. rw (p.ends_out_lem, p.short_is); both_ways = λ list bands. rw (has, count, p.ends_out_lem, p.short_is, p.axis_is) }
