-- After k turns the bytes of the first k items fill the front of the buffer.
use mathlib.Core.Path.{refl, ap, ◌∙◌}
use mathlib.Core.List.{flat_map}
use native.Mathlib.Nat.{mul-zero}
use native.Mathlib.Omega.{arith}
use Rattle.reel.proofs.Encoding.{filled_more}
use Rattle.reel.proofs.stored.write_items.Goals as goal

pub loop-k-init : goal.loop-k-init
unfolding flat_map
loop-k-init g c = rw (mul-zero g.row.N) refl

pub loop-k-preserved : goal.loop-k-preserved
loop-k-preserved g c = let item = c.index-items-k.result in
    filled_more g.T.Stored.bytes g.row.N c.args.items.now item c.loop-k.k _ c.loop-k.output c.copy_from_slice.new.self c.loop-k-test.true
    (omega (arith, c.requires.room, c.loop-k.auto.output)) c.loop-k.invariant
    (c.copy_from_slice.ensures.after ∙ c.to_bytes.ensures ∙ ap g.T.Stored.bytes c.index-items-k.is) (omega arith)
