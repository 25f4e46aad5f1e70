-- What decides besides the rules about judged rasters.
use Rattle.std.specs.Prelude.{◌≡◌, ◌*◌}
use Rattle.drain_verdict.specs.Names.{List, length, Option, None, MatchOption, IsFirstUnfilled, Cell, Judged, ConDir, ConDirAcc, ConDirBas, AllWithRanks, Verdict, IsFirstEndless, Grid, Products, IsLeastSurface, Extent, Flow, AllRunsEnd}
use Rattle.drain_grid.specs.declared.judged.Judged.TheVariants.{Con, All}
use Rattle.drain_grid.specs.declared.verdict.Verdict.TheVariants.{Accepted, Rejected}
use Rattle.drain_paths.specs.Walks.{AreKnownFlows}

-- of rasters with directions the first cell whose path doesn't end, none if all end
abbrev pub IsEndlessCell : Grid → Products → Option Cell → Type 0
IsEndlessCell g ps cell = MatchOption cell (AllRunsEnd g ps) (IsFirstEndless g ps)

-- of con alone, if every rule about it holds, the first cell that isn't filled
abbrev pub IsUnfilledCell : Grid → Products → Verdict → Option Cell → Type 0
IsUnfilledCell g ps (Accepted counts) cell = MatchOption cell (IsLeastSurface g ps.con) (IsFirstUnfilled g ps.con)
IsUnfilledCell g ps (Rejected rule row col) cell = cell ≡ None

-- the cell that decides against the judged rasters, whatever the rules say; with ranks the rules alone decide
abbrev pub IsDecided : Judged → Grid → Products → Verdict → Option Cell → Type 0
IsDecided Con g ps verdict cell = IsUnfilledCell g ps verdict cell
IsDecided ConDir g ps verdict cell = IsEndlessCell g ps cell
IsDecided ConDirAcc g ps verdict cell = IsEndlessCell g ps cell
IsDecided ConDirBas g ps verdict cell = IsEndlessCell g ps cell
IsDecided All g ps verdict cell = IsEndlessCell g ps cell
IsDecided AllWithRanks g ps verdict cell = cell ≡ None

-- the flows of all cells of a grid, known but for cells whose paths were found to end
pub record AreFlowsLeft (g : Grid) (ps : Products) (extent : Extent) (flows : List Flow) : Type 0 where
  pub known : AreKnownFlows g ps extent flows
  pub counted : length flows ≡ extent.rows * extent.cols

-- they are left where paths decide
abbrev pub AreFlowsFor : Judged → Grid → Products → Extent → List Flow → Type 0
AreFlowsFor Con g ps extent flows = Unit {0}
AreFlowsFor ConDir g ps extent flows = AreFlowsLeft g ps extent flows
AreFlowsFor ConDirAcc g ps extent flows = AreFlowsLeft g ps extent flows
AreFlowsFor ConDirBas g ps extent flows = AreFlowsLeft g ps extent flows
AreFlowsFor All g ps extent flows = AreFlowsLeft g ps extent flows
AreFlowsFor AllWithRanks g ps extent flows = Unit {0}
