-- At which cells rules fail, as C reads it.
use Rattle.std.specs.Prelude.{◌≡◌, ◌-◌}
use Rattle.drain_c.specs.Names.{ℕ, Option, Some, None, slice_get, PerRule, RuleFaults, Rule, rule_number}
use Rattle.drain_c.specs.declared.faults.FaultCells.{FaultCells}
use Rattle.drain_c.specs.declared.faults.Faults.{Faults}
use Rattle.drain_faults.specs.CellFaults.{of_rule}
use Rattle.drain_grid.specs.declared.cell.Cell.{Cell}

-- how many cells, and the first, zeros where there is none
abbrev pub with_first : ℕ → Option Cell → FaultCells
with_first cells (Some c) = record { cells = cells; row = c.row; col = c.col }
with_first cells None = record { cells = cells; row = 0; col = 0 }

abbrev pub cells_of : RuleFaults → FaultCells
cells_of f = with_first f.cells f.first

-- each rule has its own, in the place of its number, counted from 1
abbrev pub ShowsFaults : PerRule RuleFaults → Faults → Type 0
ShowsFaults found shown = (r : Rule) → slice_get shown.rules (rule_number r - 1) ≡ Some (cells_of (of_rule found r))
