-- The writer takes the first of the bytes that are left; a write that fails takes none.
use Rattle.std.proofs.Common.{rules, sym, subst}
use Rattle.std.specs.Io.KnownBytes.{Appends}
use Rattle.std.proofs.KnownBytes.{Appends-trans}
use Rattle.std.proofs.Math.Seq.{take-add}
use Rattle.std.proofs.lemmas.List.{take_rest}
use Rattle.lineruns_text.proofs.program.write_full.Goals as goal

pub loop-done-preserved : goal.loop-done-preserved
loop-done-preserved g c =
    let a = c.loop-done.done in
    let n = c.in_ok-sent.sent in
    let taken = rw (take_rest c.args.bytes.now a) at c.in_ok-sent.ensures.bytes in (
      search rules,
      subst (Appends _ _) (sym (take-add a n c.args.bytes.now)) (Appends-trans _ _ _ _ _ c.loop-done.invariant.1 taken),
    )
