-- Document 01, 'Operations': the program `lineruns`, between what it reads and what it writes. Assumes nothing.
use Rattle.std.specs.Prelude.{ℕ, ◌≡◌, ◌<◌, ◌≤◌, Option, Some, List, length, take, drop}
use Rattle.std.specs.Io.KnownBytes.{Appends, Consumes}
use Rattle.lineruns_text.specs.Writing.{printed}

-- the first 65 bytes decide what is printed: an input of more than 64 is refused, whatever follows
pub record FirstBytesDecide : Type 0 where
  pub decide : (s : List ℕ) → printed (take 65 s) ≡ printed s

-- a reader loses at most n of its known bytes, from the front
abbrev pub ConsumesUpTo : Option (List ℕ) → Option (List ℕ) → ℕ → Type 0
ConsumesUpTo old new n = (bs : List ℕ) × (length bs ≤ n) × Consumes old new bs

-- a writer's known bytes grow by first bytes of a text
abbrev pub AppendsFront : Option (List ℕ) → Option (List ℕ) → List ℕ → Type 0
AppendsFront old new text = (n : ℕ) × Appends old new (take n text)

-- Where the reader or the writer fails: of the input at most the first 65 bytes were taken, and of what is printed for it the first
-- bytes were written, none of them before the input was read.
pub record Stopped (input : List ℕ) (rest before after : Option (List ℕ)) : Type 0 where
  pub taken : ℕ
  pub sent : ℕ
  pub few : taken ≤ 65
  pub reader : rest ≡ Some (drop taken input)
  pub writer : Appends before after (take sent (printed input))
  pub order : 0 < sent → taken ≡ 65
