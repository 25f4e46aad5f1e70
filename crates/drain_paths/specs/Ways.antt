-- Where codes lead, from elevations and directions only.
use Rattle.std.specs.Prelude.{◌≡◌, ◌≢◌}
use Rattle.drain_paths.specs.Names.{pos, IsNone, [], Some, None, Cell, Pixels, Heights, Grid, Products, IsInside, HasData, number_at, grid_of, RunEnds, next, run_steps, IsFirstEndless}
use Rattle.drain_paths.specs.declared.flow.CertifyRefusal.{CertifyRefusal}
use Rattle.drain_paths.specs.declared.flow.CertifyRefusal.TheVariants.{NoEnd, OutOfMemory}
use Rattle.drain_paths.specs.declared.walk.TheConstants.{UNKNOWN}
use Rattle.drain_paths.specs.declared.flow.Way.{Way}
use Rattle.drain_paths.specs.declared.flow.Way.TheVariants.{Ends, On, Lost}

-- The answers of certifying directions.

-- every run ends, each data cell has the number of steps of its run, and each void the no-data number
pub record AreRanks (g : Grid) (ps : Products) (ranks : Pixels) : Type 0 where
  pub extent : ranks.extent ≡ g.extent
  pub nodata : ranks.nodata ≡ pos UNKNOWN
  pub ends : (c : Cell) → HasData g c → RunEnds g ps c
  pub steps : (c : Cell) → HasData g c → number_at ranks c ≡ pos (run_steps g ps c)
  pub voids : (c : Cell) → IsInside g c → IsNone (g.elevation c) → number_at ranks c ≡ pos UNKNOWN

-- the first data cell whose run doesn't end; running out of memory says nothing
abbrev pub IsRankRefusal : Grid → Products → CertifyRefusal → Type 0
IsRankRefusal g ps (NoEnd c) = IsFirstEndless g ps c
IsRankRefusal g ps OutOfMemory = Unit {0}

-- the grid of the elevations; runs don't look at which cells are open
abbrev pub ground_of : Heights → Grid
ground_of h = grid_of h []

-- products of which only the directions are given; runs look at no other
abbrev pub directions_of : Pixels → Products
directions_of dir = record {
  con = λ c. pos 0;
  dir = number_at dir;
  acc = λ c. pos 0;
  bas = λ c. pos 0;
  spl = λ c. pos 0;
  rnk = λ c. pos 0;
}

-- where water goes from the cell
abbrev pub IsWay : Grid → Products → Cell → Way → Type 0
IsWay g ps c Ends = ps.dir c ≡ pos 0
IsWay g ps c (On n) = next g ps c ≡ Some n
IsWay g ps c Lost = (next g ps c ≡ None) × (ps.dir c ≢ pos 0)
