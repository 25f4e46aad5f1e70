-- What the definitions of a flood say together.
use Rattle.std.specs.Prelude.{◌≢◌, ◌≡◌, ◌*◌, ◌≤◌}
use Rattle.drain_flood.specs.Names.{IsNone, ℤ, ℕ, List, [], Option, Cell, Direction, Grid, Products, HasData, IsInside, patch_at, Drains, IsFilled, Surface}
use Rattle.drain_grid.specs.GridRules.{RulesHold}
use Rattle.drain_grid.specs.PatchRules.{flow_rules, surface_rules, BadCodeWithoutSpill}
use Rattle.drain_grid.specs.Product.{default_numbers}
use Rattle.drain_flood.specs.declared.layers.TheConstants.{NO_HEIGHT}
use Rattle.drain_flood.specs.declared.level_queue.TheConstants.{MAX_CELLS}
use Rattle.drain_grid.specs.Rule.{IsFillRule, IsWayRule}
use Rattle.drain_flood.specs.Flats.{Laying, AreLaid, IsSettledFrom, Settles, AreWaysOnFlats, ShowsWays}
use Rattle.drain_flood.specs.Floods.{con_at, Flooding, IsFloodOf, IsReachedCell, IsReachedFrom, Reaches, IsFilledFrom, IsFlooded, IsSurfaceOf, ShowsVoids}

-- what holds of a flood still holds after one more cell is reached
abbrev pub KeptByReaching : Type 0
KeptByReaching =
    (g : Grid) (first : Surface) (old new : Flooding) (stand : Option ℤ) (busy : List ℕ) (c n : Cell) (d : Direction) (con : ℤ) →
    IsFloodOf g first old stand busy → IsReachedFrom g old stand c d n con → Reaches g.extent old new n con →
    IsFloodOf g first new stand busy

-- nothing is left to do in a flood: the trail is empty and no cell waits
pub record IsAtEnd (g : Grid) (first : Surface) (f : Flooding) : Type 0 where
  pub stand : Option ℤ
  pub flood : IsFloodOf g first f stand []
  pub no_ahead : f.ahead ≡ []
  pub no_waiting : f.waiting ≡ []

-- then every data cell is reached
abbrev pub AllAreReached : Type 0
AllAreReached = (g : Grid) (first : Surface) (f : Flooding) → IsAtEnd g first f → (c : Cell) → HasData g c → IsReachedCell g f c

-- and the grid is filled
abbrev pub FloodIsDone : Type 0
FloodIsDone = (g : Grid) (first : Surface) (f : Flooding) → IsAtEnd g first f → IsFilledFrom g first f

-- a surface of a grid is the filled one: the spill level of each data cell, and the least surface that covers the ground
-- and drains
abbrev pub FloodIsFilled : Type 0
FloodIsFilled = (g : Grid) (f : Flooding) → IsSurfaceOf g f → IsFilled g (con_at g.extent f)

-- what holds while flats get their ways still holds after one more cell is settled
abbrev pub KeptBySettling : Type 0
KeptBySettling =
    (g : Grid) (f : Flooding) (old new : Laying) (k : ℕ) (busy : List ℕ) (c n : Cell) (d : Direction) (code rank : ℕ) →
    AreLaid g f old k busy → IsSettledFrom g f old c d n code rank → Settles g.extent old new n code rank → AreLaid g f new k busy

-- if every cell was looked at and the trail is empty, every data cell of a surface that drains has its way
abbrev pub AllAreSettled : Type 0
AllAreSettled =
    (g : Grid) (f : Flooding) (w : Laying) (k : ℕ) → Drains g (con_at g.extent f) → AreLaid g f w k [] → g.extent.rows * g.extent.cols ≤ k → w.ahead ≡ [] →
    AreWaysOnFlats g f w

-- ways down and along flats keep rules 10 to 12 at every cell, and rule 3
abbrev pub FlatsKeepRules : Type 0
FlatsKeepRules =
    (g : Grid) (f : Flooding) (w : Laying) (ps : Products) → AreWaysOnFlats g f w → ShowsWays g f w ps →
    RulesHold flow_rules IsWayRule g ps × ((c : Cell) → IsInside g c → BadCodeWithoutSpill (patch_at g ps c))

-- a filled surface keeps rules 4, 5 and 9 at every cell
abbrev pub SurfaceKeepsRules : Type 0
SurfaceKeepsRules =
    (g : Grid) (f : Flooding) (ps : Products) → IsSurfaceOf g f → ((c : Cell) → ps.con c ≡ con_at g.extent f c) → RulesHold surface_rules IsFillRule g ps

-- no ground of a flooded grid is as low as the height of a void, so its height is that of a void exactly at voids
abbrev pub FloodShowsVoids : Type 0
FloodShowsVoids = (g : Grid) (f : Flooding) → IsFlooded g f → ShowsVoids g f NO_HEIGHT

-- the height is this number exactly at voids, and the code and the rank are the default no-data numbers exactly there:
-- their parts of rules 1 and 2
pub record ArePresent (g : Grid) (ps : Products) (con : ℤ) (c : Cell) : Type 0 where
  pub void : IsNone (g.elevation c) → (ps.con c ≡ con) × (ps.dir c ≡ default_numbers.dir) × (ps.rnk c ≡ default_numbers.rnk)
  pub data_con : HasData g c → ps.con c ≢ con
  pub data_dir : HasData g c → ps.dir c ≢ default_numbers.dir
  pub data_rnk : HasData g c → ps.rnk c ≢ default_numbers.rnk

abbrev pub FlatsArePresent : Type 0
FlatsArePresent =
    (g : Grid) (f : Flooding) (w : Laying) (ps : Products) (con : ℤ) → g.extent.rows * g.extent.cols ≤ MAX_CELLS → ShowsVoids g f con → AreWaysOnFlats g f w →
    ShowsWays g f w ps → (c : Cell) → IsInside g c → ArePresent g ps con c
