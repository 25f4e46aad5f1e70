-- A grid padded with voids: a larger grid, in which it lies from the first row and column on. This project's own.
use Rattle.std.specs.Prelude.{◌≡◌, ◌<◌, ◌≤◌}
use Rattle.drain_laws.specs.Names.{ℕ, IsNone, Cell, NoDataNumbers, Grid, Products, IsInside, IsBlankAt}

-- p is g with voids after its last row and after its last column, and its rows are spaced as those of g; sinks listed
-- at those voids play no part
pub record IsPadded (g p : Grid) : Type 0 where
  pub rows : g.extent.rows ≤ p.extent.rows
  pub cols : g.extent.cols ≤ p.extent.cols
  pub elevations : (c : Cell) → IsInside g c → p.elevation c ≡ g.elevation c
  pub sinks : (c : Cell) → IsInside g c → p.sink c ≡ g.sink c
  pub spacings : (row : ℕ) → row < g.extent.rows → p.spacing row ≡ g.spacing row
  pub voids : (c : Cell) → IsInside p c → ¬ IsInside g c → IsNone (p.elevation c)

-- the four rasters of qs have the numbers of those of ps at the cell
pub record AreSameAt (ps qs : Products) (c : Cell) : Type 0 where
  pub con : qs.con c ≡ ps.con c
  pub dir : qs.dir c ≡ ps.dir c
  pub acc : qs.acc c ≡ ps.acc c
  pub bas : qs.bas c ≡ ps.bas c

-- on the padded grid qs have the numbers of ps at the cells of g, and no-data numbers at the others: the four rasters
pub record IsPaddedSet (g p : Grid) (ps qs : Products) (nodata : NoDataNumbers) : Type 0 where
  pub same : (c : Cell) → IsInside g c → AreSameAt ps qs c
  pub blank : (c : Cell) → IsInside p c → ¬ IsInside g c → IsBlankAt qs nodata c

-- and so do the ranks
pub record ArePaddedRanks (g p : Grid) (ps qs : Products) (nodata : NoDataNumbers) : Type 0 where
  pub same : (c : Cell) → IsInside g c → qs.rnk c ≡ ps.rnk c
  pub blank : (c : Cell) → IsInside p c → ¬ IsInside g c → qs.rnk c ≡ nodata.rnk

-- p is g padded with voids, and qs are ps on it
pub record ArePadded (g p : Grid) (ps qs : Products) (nodata : NoDataNumbers) : Type 0 where
  pub grid : IsPadded g p
  pub set : IsPaddedSet g p ps qs nodata
