-- Over which distances slopes were compared. Source: this project's own.
use Rattle.drain_findings.specs.declared.slopes.Slopes.{Slopes}
use Rattle.drain_findings.specs.declared.slopes.Slopes.TheVariants.{Cells, ByRow}
use Rattle.drain_sets.specs.GivenSpacings.{GivenSpacing, by_row, same}

-- one spacing for all cells, or those that a text lists
abbrev pub slopes_of : GivenSpacing → Slopes
slopes_of (same spacing) = Cells spacing
slopes_of (by_row text) = ByRow
