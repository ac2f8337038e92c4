-- A band ends below the window where it has more rows than the window, or where too few are left for its first row.
use borrow.Author.Tests.{ltb-true, eq-eqb, ne_eqb, lt-ltb}
use Prim.Native.Nat.{ℕ, ◌+◌, ◌-◌, ◌≤◌}
use mathlib.Core.Path.{◌≡◌}
use native.Mathlib.Omega.{arith}
use lib.Dec.{ltb}
use Rattle.counting.proofs.Boolean.{bool_iff}
use Rattle.drawing.specs.Band.{band_out}
use Rattle.drawing.proofs.band.Band.out.Goals as goal

too_few : (height first rows : ℕ) → rows ≤ height → ltb (height - rows) first ≡ ltb height (first + rows)
too_few height first rows l =
    bool_iff _ _
    (λ t. lt-ltb height (first + rows) (omega (arith, ltb-true (height - rows) first t)))
    (λ t. lt-ltb (height - rows) first (omega (arith, ltb-true height (first + rows) t)))

pub returns-then-self-eq0 : goal.returns-then-self-eq0
unfolding band_out
returns-then-self-eq0 c = rw (eq-eqb c.args.self.rows 0 c.if-self-eq0.true)

pub returns-then-window-self : goal.returns-then-window-self
unfolding band_out
returns-then-window-self c = let a = c.args in
    rw (
      ne_eqb a.self.rows 0 c.if-self-eq0.false,
      lt-ltb a.window.height a.self.rows c.if-window-self.true,
      lt-ltb a.window.height (a.self.first + a.self.rows) (omega (arith, c.if-window-self.true)),
    )

pub returns-else-window-self : goal.returns-else-window-self
unfolding band_out
returns-else-window-self c = let a = c.args in
    rw (ne_eqb a.self.rows 0 c.if-self-eq0.false) (too_few a.window.height a.self.first a.self.rows c.if-window-self.false)
