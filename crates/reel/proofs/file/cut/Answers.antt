-- The last twelve bytes lie in the file, and the table where they say if all three parts make up its length.
use mathlib.Core.Path.{◌≡◌, sym, ap, ap₂, ◌∙◌}
use native.Mathlib.Omega.{arith}
use Prim.Native.Nat.{ℕ, ◌+◌, ◌-◌, ◌*◌}
use lib.ListN.{take, drop}
use Rattle.reel.specs.Reel.{frames}
use Rattle.reel.specs.Reading.{Whole}
use Rattle.reel.proofs.Conditions.{file_in}
use Rattle.reel.proofs.Encoded.{position_at, frames-at}
use Rattle.reel.proofs.file.cut.Goals as goal

pub overflow_sub-file : goal.overflow_sub-file
overflow_sub-file c = omega (arith, (file_in c.args.file.now c.requires).0)

pub word-position-requires : goal.word-position-requires
word-position-requires c = omega (arith, (file_in c.args.file.now c.requires).0)

pub overflow_sub-file-2 : goal.overflow_sub-file-2
overflow_sub-file-2 c = omega (arith, (file_in c.args.file.now c.requires).0)

pub word-requires : goal.word-requires
word-requires c = omega (arith, (file_in c.args.file.now c.requires).0)

pub returns-then-position-size : goal.returns-then-position-size
returns-then-position-size c = let s = c.args.file.now in
    λ (e : Whole s).
    c.if-position-size.true (omega (arith, c.word-position.ensures, c.word.ensures, position_at s, frames-at s))

pub returns : goal.returns
returns c = let s = c.args.file.now in
    let p = c.word-position.ensures ∙ sym (position_at s) in
    let f = c.word.ensures ∙ sym (frames-at s) in
    let size : c.word-position.result + 4 * c.word.result - c.word-position.result ≡ 4 * frames s = omega arith in
    record {
      whole = omega (arith, p, f);
      front = ap (λ (n : ℕ). take n s) p;
      behind = ap₂ (λ (n m : ℕ). take n (drop m s)) size p;
    }
