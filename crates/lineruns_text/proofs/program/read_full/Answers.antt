-- What a read puts behind the bytes that are there is what it takes off the input; a read that fails takes nothing.
use Rattle.std.proofs.Common.{◌≡◌, ℕ, ◌+◌, ◌-◌, ◌≤◌, List, ◌++◌, rules, length, take, sym, ap, ◌∙◌, subst, length-take-le}
use Rattle.std.specs.Io.KnownBytes.{Consumes}
use Rattle.std.proofs.KnownBytes.{Consumes-trans, Consumes-kept}
use Rattle.std.proofs.lemmas.Result.{err_from_is_err_and}
use borrow.Rule.Slice.PartMut.{put_mid, post_of}
use lib.Seq.{take-append-le}
use Rattle.std.proofs.Math.Seq.{take-append-add}
use Rattle.lineruns_text.proofs.program.read_full.Goals as goal

-- the first a + n bytes are the first a, as they were, and the n that came behind them
joined : (a n k : ℕ) (old part : List ℕ) → a ≤ length old → n ≤ length part
    → take a old ++ take n part ≡ take (a + n) (put_mid a k old part)
joined a n k old part la ln =
    let rest = part ++ post_of a k old in
    ap (λ (l : List ℕ). take a old ++ l) (sym (take-append-le n part (post_of a k old) ln))
    ∙ sym (take-append-add (take a old) rest n)
    ∙ ap (λ (m : ℕ). take (m + n) (take a old ++ rest)) (length-take-le a old la)

pub loop-done-preserved : goal.loop-done-preserved
loop-done-preserved g c =
    let a = c.loop-done.done in
    let n = c.in_ok-n.n in (
      search rules,
      search rules,
      subst (Consumes _ _) (joined a n (length c.loop-done.input - a) c.loop-done.input c.read.new.buf c.loop-done.invariant.1 c.in_ok-n.ensures.bound.0)
          (Consumes-trans _ _ _ _ _ c.loop-done.invariant.2 c.in_ok-n.ensures.bytes.0),
    )

pub returns-in_err-n-clause-failed : goal.returns-in_err-n-clause-failed
returns-in_err-n-clause-failed g c =
    let p = err_from_is_err_and c.from_residual.result c.from_residual.ensures.1 in
    rw p.1 (take c.loop-done.done c.loop-done.input, search rules, Consumes-kept _ _ _ _ c.loop-done.invariant.2 c.in_err-n.ensures.bytes)
