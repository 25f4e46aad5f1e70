-- What the code's walk over the judged cells of a grid has found.
use Rattle.std.specs.Prelude.{◌≡◌, ◌*◌}
use Rattle.drain_rules.specs.Names.{ℕ, List, Bool, true, count_by, flat_map, range_with_len, LabelSet, Cell, MAX_LENGTH, row_cells, Grid, Products, is_data, is_raised, Rules, Patch, tried}
use Rattle.drain_rules.specs.declared.walk.RowOutcome.{RowOutcome}
use Rattle.drain_rules.specs.declared.walk.RowOutcome.TheVariants.{Sound, Faulty}
use Rattle.drain_rules.specs.declared.walk.Tally.{Tally}
use Rattle.drain_rules.specs.Rows.{IsAtMost, AreRowPatches, place}
use Rattle.drain_rules.specs.Verdicts.{has_outlet_code}
use Rattle.drain_rules.specs.declared.walk.Area.{Area}
use Rattle.drain_rules.specs.Areas.{IsAreaOutcome, everywhere}
use Rattle.drain_rules.specs.Compared.{IsTriedIf}
use Rattle.drain_rules.specs.Labels.{AreLabelsBefore}

-- The counts of the rows above a row.

-- the cells of the first rows
abbrev pub cells_above : Grid → ℕ → List Cell
cells_above g rows = flat_map (row_cells g.extent.cols) (range_with_len 0 rows)

-- how many of them have data, are raised, and are outlets by their code
pub record CountsAbove (g : Grid) (ps : Products) (rows : ℕ) (tally : Tally) : Type 0 where
  pub data_cells : tally.data_cells ≡ count_by (is_data g) (cells_above g rows)
  pub raised : tally.raised ≡ count_by (is_raised g ps) (cells_above g rows)
  pub outlets : tally.outlets ≡ count_by (has_outlet_code g ps) (cells_above g rows)

-- the counts of the rows above, where they are sound
abbrev pub tally_of : RowOutcome → Tally
tally_of (Sound tally) = tally
tally_of (Faulty cell rule) = record { data_cells = 0; raised = 0; outlets = 0 }

-- they are those of n rows
abbrev pub IsBounded : ℕ → RowOutcome → Type 0
IsBounded rows outcome = IsAtMost (rows * MAX_LENGTH) (tally_of outcome)

-- its result after so many rows is right of the grid and its products, by these rules
abbrev pub IsRightOf : {L : Type 0} → Bool → (L → Area) → (Grid → Products → Cell → L → Type 0) → Rules → Grid → Products → ℕ → L → RowOutcome → Type 0
IsRightOf compares judges are_before rules g ps rows labels outcome =
    IsAreaOutcome (tried rules) (IsTriedIf compares rules.judged) (judges labels) g ps rows (are_before g ps (place rows 0) labels) outcome

-- this holds of each grid of which the result is right, where these are the patches of its next row
abbrev pub OfNextRow : {L : Type 0} → (Grid → Products → ℕ → L → RowOutcome → Type 0) → ℕ → L → RowOutcome → ℕ → (ℕ → Patch) → (Grid → Products → Type 0) → Type 0
OfNextRow IsRight rows labels outcome cols shown P = (g : Grid) (ps : Products) → AreRowPatches g ps rows cols shown → IsRight g ps rows labels outcome → P g ps

-- so of all cells, where labels are compared
abbrev pub IsRightOfAll : Rules → Grid → Products → ℕ → LabelSet → RowOutcome → Type 0
IsRightOfAll = IsRightOf true (λ labels. everywhere) AreLabelsBefore
