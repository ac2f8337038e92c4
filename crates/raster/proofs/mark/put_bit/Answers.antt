-- The mask's bit is or'd in, and the byte changes exactly where the bit was 0.
use Prim.Native.Nat.{ℕ, ◌+◌, ◌/◌, ◌%◌}
use mathlib.Core.Path.{sym, ap, ◌∙◌}
use mathlib.Core.List.{List}
use native.Mathlib.Omega.{arith}
use lib.Bits.{bit_or}
use lib.ListN.{get_or, set}
use Rattle.raster.proofs.Over.{Bytes}
use Rattle.raster.proofs.BitLaws.{bits_one}
use Rattle.raster.proofs.Growing.{bits_put}
use Rattle.raster.specs.Fresh.{bit_count}
use Rattle.raster.proofs.mark.put_bit.Goals as goal

pub returns : goal.returns
returns c = let a = c.args in
    let s = a.raster.now in
    let bytes : Bytes s = λ i _. (c.slice_known-1.given i).fits in record {
      raster_after = ap (λ (m : List ℕ). set s (a.p / 8) (bit_or (get_or s (a.p / 8) 0) (get_or m (a.p % 8) 0))) c.requires.0
          ∙ bits_one s a.p c.requires.1 bytes;
      bits_grow = bits_put s (a.p / 8) c.requires.1 bytes a.mask.now c.requires.0 (a.p % 8) (omega arith)
          ∙ ap (λ (n : ℕ). bit_count s + n) (sym c.from.ensures);
    }
