-- What the walk over the judged cells of a window has found.
use Rattle.std.specs.Prelude.{◌≡◌, ◌+◌, ◌<◌, ◌≤◌}
use Rattle.drain_window.specs.Names.{ℕ, Rules, Grid, Products, IsPatchRule, unranked, NoDataNumbers, IsAreaOutcome, place}
use Rattle.drain_window.specs.declared.seam_walk.SeamWalk.{SeamWalk}
use Rattle.drain_window.specs.SeamRows.{ListsSeamsAbove}
use Rattle.drain_rules.specs.declared.walk.Walk.{Walk}
use Rattle.drain_window.specs.JudgedAreas.{AreListed}
use Rattle.drain_window.specs.declared.listed_outlets.ListedOutlets.{ListedOutlets}

-- What the code's walk has listed of the seams.

-- the walk has passed this number of rows, and its list is right of a grid that is wide enough
pub record IsSeamWalkOf (rules : Rules) (g : Grid) (ps : Products) (rows : ℕ) (walk : SeamWalk) : Type 0 where
  pub rows_are : walk.rows ≡ rows
  pub nodata_is : 0 < rows → walk.nodata ≡ rules.nodata
  pub right : walk.place.left + walk.place.extent.cols ≤ g.extent.cols → ListsSeamsAbove walk.origin walk.place g ps walk.rows walk.seams.items

-- it has passed this number of rows, and is right of the grid and its products under the rules without ranks
pub record IsWindowWalkOf (nodata : NoDataNumbers) (g : Grid) (ps : Products) (rows : ℕ) (walk : Walk ListedOutlets) : Type 0 where
  pub rows_are : walk.rows ≡ rows
  pub right : IsAreaOutcome (unranked nodata) IsPatchRule walk.labels.area g ps walk.rows
      (AreListed walk.labels.area walk.labels.origin g ps (place walk.rows 0) walk.labels.outlets.items) walk.outcome
