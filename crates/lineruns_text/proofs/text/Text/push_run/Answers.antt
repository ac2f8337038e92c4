-- The numbers with a blank behind each of the first two, and the end of the line.
use Rattle.std.proofs.Common.{arith, length, ap, length-append, ◌≡◌, ℕ, ℤ, List, [], ◌∷◌, ◌++◌}
use Rattle.std.specs.Fmt.{signed_decimal}
use mir.Syntax.{w32}
use mir.Val.{to_z, of_z}
use mir.ValLaws.{to_z-of_z}
use Rattle.lineruns_text.specs.Writing.{run_line}
use Rattle.lineruns_text.proofs.Placing.{both}
use Rattle.lineruns_text.proofs.Printed.{ended, run_is}
use Rattle.lineruns_text.proofs.text.Text.push_run.Goals.{Start}
use Rattle.lineruns_text.proofs.text.Text.push_run.Goals as goal

abbrev sent : ℤ → List ℕ
sent z = signed_decimal (to_z w32 (of_z w32 z)) ++ (32 ∷ [])

line : (c : Start) → run_line (record { across = c.args.across; lowest = c.args.lowest; pixels = c.args.pixels }) ≡ sent c.args.across ++ (sent c.args.lowest ++ ended c.args.pixels)
line c = let a = c.args in
    rw (to_z-of_z w32 a.across c.ranges.across, to_z-of_z w32 a.lowest c.ranges.lowest) (run_is a.across a.lowest a.pixels c.ranges.across c.ranges.lowest (omega arith))

pub push_signed-requires : goal.push_signed-requires
push_signed-requires c = omega (arith, ap length (line (goal.at.push_signed-requires c).Start), length-append {A = ℕ})

pub push-requires : goal.push-requires
push-requires c = omega (arith, ap length (line (goal.at.push-requires c).Start), length-append {A = ℕ})

pub push_signed-requires-2 : goal.push_signed-requires-2
push_signed-requires-2 c = omega (arith, ap length (line (goal.at.push_signed-requires-2 c).Start), length-append {A = ℕ})

pub push-requires-2 : goal.push-requires-2
push-requires-2 c = omega (arith, ap length (line (goal.at.push-requires-2 c).Start), length-append {A = ℕ})

pub push_decimal-requires : goal.push_decimal-requires
push_decimal-requires c = omega (arith, ap length (line (goal.at.push_decimal-requires c).Start), length-append {A = ℕ})

pub push-requires-3 : goal.push-requires-3
push-requires-3 c = omega (arith, ap length (line (goal.at.push-requires-3 c).Start), length-append {A = ℕ})

pub returns : goal.returns
returns c =
    rw (line (goal.at.returns c).Start)
    (both (both c.push_signed.ensures c.push.ensures) (both (both c.push_signed-2.ensures c.push-2.ensures) (both c.push_decimal.ensures c.push-3.ensures)))
