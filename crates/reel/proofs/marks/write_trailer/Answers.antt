-- Two numbers, then the letters.
use mathlib.Core.Path.{ap, ap₂, ◌∙◌}
use mathlib.Core.List.{List, ◌++◌, flat_map, append-nil}
use Prim.Native.Nat.{ℕ}
use Rattle.reel.specs.Numbers.{bytes_of}
use Rattle.reel.proofs.marks.write_trailer.Goals as goal

pub returns : goal.returns
unfolding flat_map
returns c = let first = bytes_of 4 c.args.position in
    ap₂ ◌++◌ (c.write_items.ensures ∙ ap (λ (t : List ℕ). first ++ t) (append-nil (bytes_of 4 c.args.frames))) c.copy_from_slice.ensures.after
