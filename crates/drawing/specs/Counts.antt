-- What every drawing answers, in the paper's terms. Assumes nothing.
use Rattle.std.specs.Prelude.{ℕ, ◌+◌, ◌≡◌, List}
use Rattle.refusal.specs.Refusal.{Answer, given, refused_at}
use Rattle.raster.specs.Fresh.{marked_count}
use Rattle.raster.specs.declared.window.Window.{Window}
use Rattle.drawing.specs.declared.counts.Counts.{Counts}

-- the number of a drawing's pixels, and how many of them are fresh, that is unmarked at the start
abbrev pub counts : ℕ → ℕ → Counts
counts count fresh = record { count = count; fresh = fresh }

-- the counts of an answer, both 0 where it is a refusal
abbrev pub counts_of : Answer Counts → Counts
counts_of (given c) = c
counts_of (refused_at n place) = counts 0 0

-- its fresh pixels
abbrev pub fresh_of : Answer Counts → ℕ
fresh_of a = (counts_of a).fresh

-- the raster t has n marked pixels more than s, padding apart
abbrev pub Adds : Window → List ℕ → List ℕ → ℕ → Type 0
Adds w s t n = marked_count w t ≡ marked_count w s + n
