-- Document 01, 'Operations': the line as what is drawn. Assumes nothing.
use Rattle.std.specs.Prelude.{ℕ, suc}
use Rattle.counting.specs.Count.{count}
use Rattle.raster.specs.Raster.{in_window}
use Rattle.raster.specs.declared.window.Window.{Window}
use Rattle.drawing.specs.Figure.{Figure}
use Rattle.line.specs.Line.{long, pixel, on_line, ends_conditions}
use Rattle.line.specs.declared.ends.Ends.{Ends}

-- how many of the line's pixels lie in the window
unfoldable pub line_count : Ends → Window → ℕ
unfolding long pixel
line_count e w = count (suc (long e)) (λ i. in_window w (pixel e i))

-- refused by 1; its pixels; their number
abbrev pub line_figure : Ends → Figure
line_figure e = record { refusals = ends_conditions e; has = on_line e; count = line_count e }
