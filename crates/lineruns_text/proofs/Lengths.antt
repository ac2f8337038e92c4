-- How long the printed lines are.
use Rattle.std.proofs.Common.{ℕ, ◌*◌, ◌≤◌, ◌<◌, ◌≡◌, false, suc, zero, ℤ, List, add-one, arith, length, length-append}
use Rattle.std.proofs.lemmas.Fmt.{length-decimal-le}
use Rattle.counting.specs.Count.{each}
use Rattle.runs.specs.Painting.{run_at, run_bad}
use Rattle.lineruns_text.specs.Writing.{axis_text, refused_line, run_lines}
use Rattle.lineruns_text.proofs.Printed.{axis_is, refused_is}
use Rattle.lineruns_text.proofs.RunLines.{lines_none, lines_more, line_length}

pub refused_line-length : (n : ℕ) → n < 100 → length (refused_line n) ≤ 11
refused_line-length n h =
    let d = length-decimal-le 2 n (omega arith) (omega arith) (omega arith) in
    rw (refused_is n (omega arith)) (omega (arith, length-append {A = ℕ}))

pub axis_line-length : (letter n : ℕ) → n < 100000 → length (axis_text letter n) ≤ 18
axis_line-length letter n h =
    let d = length-decimal-le 5 n (omega arith) (omega arith) (omega arith) in
    rw (axis_is letter n (omega arith)) (omega (arith, length-append {A = ℕ}))

pub lines_length : (list : List ℤ) (n : ℕ) → ((k : ℕ) → k < n → run_bad list k ≡ false) → length (run_lines (each n (run_at list))) ≤ 20 * n
lines_length list zero good = rw (lines_none (run_at list)) (omega arith)
lines_length list (suc n) good =
    let line = line_length list n (good n (omega arith)) in
    let before = lines_length list n (λ k l. good k (omega arith)) in
    rw (← add-one n) (rw (lines_more n (run_at list)) (omega (arith, length-append {A = ℕ})))
