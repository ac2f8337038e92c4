-- Appending a text and then another behind it is appending both.
use Rattle.std.proofs.Common.{◌≡◌, ℕ, ◌+◌, ◌≤◌, ◌<◌, List, [], ◌∷◌, ◌++◌, length, take, drop, set, add-one, arith, refl, sym, ap, ap₂, ◌∙◌, append_assoc, length-append, length-drop}
use Rattle.std.proofs.lemmas.List.{length-take-le, length-set, drop-drop, take-append-drop, take_at, set_split}
use lib.Seq.{drop-append-add, paste-zero}
use native.Mathlib.Nat.{add_assoc}
use Rattle.lineruns_text.specs.Written.{written, Appended}
use Rattle.lineruns_text.specs.declared.text.Text.{Text}

module _ (at : ℕ) (text buffer : List ℕ) (room : at + length text ≤ length buffer) where
  head_length : length (take at buffer ++ text) ≡ at + length text
  head_length = length-append (take at buffer) text ∙ ap (λ (k : ℕ). k + length text) (length-take-le at buffer (omega arith))

  pub length-written : length (written at text buffer) ≡ length buffer
  unfolding written
  length-written = rw (length-append, head_length, length-drop) (omega arith)

  pub take-written : take (at + length text) (written at text buffer) ≡ take at buffer ++ text
  unfolding written
  take-written = take_at (take at buffer ++ text) (drop (at + length text) buffer) (at + length text) head_length

  drop-written : (n : ℕ) → drop (at + length text + n) (written at text buffer) ≡ drop (at + length text + n) buffer
  unfolding written
  drop-written n =
      ap (λ (k : ℕ). drop (k + n) (take at buffer ++ text ++ drop (at + length text) buffer)) (sym head_length)
      ∙ drop-append-add (take at buffer ++ text) (drop (at + length text) buffer) n
      ∙ drop-drop n (at + length text) buffer

  pub written-append : (more : List ℕ) → written (at + length text) more (written at text buffer) ≡ written at (text ++ more) buffer
  unfolding written
  written-append more =
      rw (take-written, drop-written (length more), append_assoc (take at buffer) text more, length-append text more, add_assoc at (length text) (length more))

-- one text after another
pub both : {a b : List ℕ} {x y z : Text} → Appended a x y → Appended b y z → Appended (a ++ b) x z
both {a} {b} {x} {y} {z} p q = record {
  same_buffer = q.same_buffer ∙ p.same_buffer;
  len = omega (arith, length-append a b);
  within = q.within;
  size = q.size ∙ p.size;
  bytes =
      q.bytes
      ∙ ap (λ (k : ℕ). written k b y.output.now) p.len
      ∙ ap (λ (l : List ℕ). written (x.len + length a) b l) p.bytes
      ∙ written-append x.len a x.output.now (omega arith) b;
}

pub nothing : (x : Text) → x.len ≤ length x.output.now → Appended [] x x
unfolding written
nothing x h = record {
  same_buffer = refl;
  len = omega arith;
  within = h;
  size = refl;
  bytes = paste-zero x.output.now x.len [];
}

-- one byte, set where the text ends
pub one : {byte : ℕ} {x y : Text} → x.len < length x.output.now → y.output.ghost_name ≡ x.output.ghost_name → y.len ≡ x.len + 1
    → y.output.now ≡ set x.output.now x.len byte → Appended (byte ∷ []) x y
unfolding written
one {byte} {x} {y} room same next bytes =
    let size = ap length bytes ∙ length-set x.output.now x.len byte in record {
      same_buffer = same;
      len = next;
      within = omega (arith, size);
      size = size;
      bytes = bytes ∙ set_split x.output.now x.len byte room ∙ rw (append_assoc, add-one);
    }

-- a text that stands where the text so far ends, with the bytes before and behind it as they were
pub placed : {text : List ℕ} {x y : Text} → x.len + length text ≤ length x.output.now → y.output.ghost_name ≡ x.output.ghost_name → y.len ≡ x.len + length text
    → drop x.len y.output.now ≡ text ++ drop (x.len + length text) x.output.now → take x.len y.output.now ≡ take x.len x.output.now → Appended text x y
unfolding written
placed {text} {x} {y} room same next behind before =
    let bytes : y.output.now ≡ written x.len text x.output.now =
    sym (take-append-drop x.len y.output.now) ∙ ap₂ (λ (s t : List ℕ). s ++ t) before behind ∙ sym (append_assoc (take x.len x.output.now) text (drop (x.len + length text) x.output.now)) in
    let size = ap length bytes ∙ length-written x.len text x.output.now room in record {
      same_buffer = same;
      len = next;
      within = omega (arith, size);
      size = size;
      bytes = bytes;
    }
