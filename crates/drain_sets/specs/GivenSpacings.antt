-- How far apart cells are, as a caller says it beside the rasters.
use Rattle.std.specs.Prelude.{ℕ, List}
use Rattle.drain_grid.specs.declared.spacing_text.SpacingInput.{SpacingInput}
use Rattle.drain_grid.specs.declared.spacing_text.SpacingInput.TheVariants.{Same, ByRow}
use Rattle.drain_grid.specs.Spacing.{Distances}

-- all cells have one spacing, or a text has a line for each row from the north
pub data GivenSpacing : Type 0 where
  same : Distances → GivenSpacing
  by_row : List ℕ → GivenSpacing

-- what a caller says, whose text lies somewhere in memory
abbrev pub spacing_from : SpacingInput → GivenSpacing
spacing_from (Same s) = same s
spacing_from (ByRow text) = by_row text.now
