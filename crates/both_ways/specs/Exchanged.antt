-- Document 02, 6/13: with its ends exchanged a line is drawn the same both ways together; the proof is in proofs/Exchanged.antt.
-- Assumes nothing.
use Rattle.std.specs.Prelude.{ℕ, ◌≡◌, List, ℤ}
use Rattle.raster.specs.declared.window.Window.{Window}
use Rattle.line.specs.Exchanged.{exchanged}
use Rattle.line.specs.declared.ends.Ends.{Ends}
use Rattle.both_ways.specs.BothWays.{both_met, both_answer}

-- listed and painted on s, and drawn by bands on t: refused by the same number, with the same answer
pub record SameBothWays (e : Ends) (w : Window) (s t : List ℕ) : Type 0 where
  pub both_met_lem : (list : List ℤ) → both_met (exchanged e) w list s t ≡ both_met e w list s t
  pub both_ways : (list : List ℤ) (bands : List ℕ) → both_answer (exchanged e) w list bands s t ≡ both_answer e w list bands s t
