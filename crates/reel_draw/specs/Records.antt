-- Document 02, 2/13: the lines of some records, a list of numbers of which four make a record. Assumes nothing.
use Rattle.std.specs.Prelude.{ℕ, ◌+◌, ◌*◌, ◌/◌, List, ℤ, pos, length, get_or}
use Rattle.drawing.specs.Figure.{Figure, Drawable, several}
use Rattle.drawing.proofs.Parts.{several_drawable}
use Rattle.line.specs.Figure.{line_figure}
use Rattle.line.specs.declared.ends.Ends.{Ends}
use Rattle.line.proofs.Drawable.{line_once}

-- how many records there are
abbrev pub record_count : List ℤ → ℕ
record_count list = length list / 4

-- the line of record k: first column, first row, second column, second row
abbrev pub record_line : List ℤ → ℕ → Ends
record_line list k =
    record {
      x0 = get_or list (4 * k) (pos 0);
      y0 = get_or list (4 * k + 1) (pos 0);
      x1 = get_or list (4 * k + 2) (pos 0);
      y1 = get_or list (4 * k + 3) (pos 0);
    }

-- the lines as what is drawn, one after another: an overlap is counted each time, and fresh once
abbrev pub records_figure : List ℤ → Figure
records_figure list = several (record_count list) (λ k. line_figure (record_line list k))

-- the law that `Draw` asks of it
pub records_drawable : (list : List ℤ) → Drawable (records_figure list)
records_drawable list = several_drawable (record_count list) (λ k. line_figure (record_line list k)) (λ k. line_once (record_line list k))
