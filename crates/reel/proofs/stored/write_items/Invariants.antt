-- After k turns the bytes of the first k items fill the front of the buffer.
use Prim.Native.Nat.{◌*◌}
use mathlib.Core.Path.{◌≡◌}
use mathlib.Core.List.{flat_map}
use lib.ListN.{take}
use Rattle.reel.proofs.stored.write_items.Given as goal

abbrev pub invariant-loop-k : goal.invariant-loop-k
invariant-loop-k g l = take (g.row.N * l.k) l.output ≡ flat_map g.T.Stored.bytes (take l.k l.items)
