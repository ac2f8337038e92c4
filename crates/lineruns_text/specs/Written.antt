-- What `answer` leaves in its output, and how its text comes there. Assumes nothing.
use Rattle.std.specs.Prelude.{ℕ, ◌+◌, ◌≤◌, ◌≡◌, cond, List, ◌++◌, length, take, drop, ltb}
use Rattle.lineruns_text.specs.Writing.{printed}
use Rattle.lineruns_text.specs.declared.text.Text.{Text}

-- a buffer with a text in it from a place on
unfoldable pub written : ℕ → List ℕ → List ℕ → List ℕ
written at text buffer = take at buffer ++ text ++ drop (at + length text) buffer

-- there is room for n bytes behind the text
abbrev pub HasRoom : Text → ℕ → Type 0
HasRoom t n = t.len + n ≤ length t.output.now

-- a text was appended, and the rest of the buffer is as it was
pub record Appended (text : List ℕ) (entry exit : Text) : Type 0 where
  pub same_buffer : exit.output.ghost_name ≡ entry.output.ghost_name
  pub len : exit.len ≡ entry.len + length text
  pub within : exit.len ≤ length exit.output.now
  pub size : length exit.output.now ≡ length entry.output.now
  pub bytes : exit.output.now ≡ written entry.len text entry.output.now

-- what `answer` answers to an input and an output, and what it leaves in the output: an output shorter than 110000 bytes is
-- left as it is, and the answer is 0
abbrev pub print_length : List ℕ → List ℕ → ℕ
print_length input output = cond (ltb (length output) 110000) 0 (length (printed input))

abbrev pub print_after : List ℕ → List ℕ → List ℕ
print_after input output = cond (ltb (length output) 110000) output (written 0 (printed input) output)
