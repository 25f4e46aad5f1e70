use Rattle.drain_rules.proofs.Names.{length, ◌-◌, ◌≤◌, ◌<◌, ℕ, IsBelowAt}
use Rattle.drain_rules.proofs.screen.cells_above_ground.Given as goal

abbrev pub invariant-loop-at : goal.invariant-loop-at
invariant-loop-at g l = (l.at ≤ length (g.G.PixelNumbers.numbers l.ground)) × ((place : ℕ) → place < l.at → ¬ IsBelowAt (g.N.PixelNumbers.numbers l.con) (g.G.PixelNumbers.numbers l.ground) place)

abbrev pub decreases-loop-at : goal.decreases-loop-at
decreases-loop-at g l = length (g.G.PixelNumbers.numbers l.ground) - l.at
