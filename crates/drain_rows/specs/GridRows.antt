-- The rows of a grid and its products, as they come one after another.
use Rattle.std.specs.Prelude.{◌≡◌, ◌+◌, ◌<◌, ◌&&◌, ◌==◌}
use Rattle.drain_rows.specs.Names.{ℕ, List, Option, Some, None, Bool, ℤ, false, nat_lt, not, is_none, length, slice_index_or, Cell, SinkLine, is_listed, Extent, Grid, Products, IsInside, HasData, AreNumbersOf, RowNumbers, blank, AreRowPatches, Distances, Rules, is_among}
use Rattle.drain_rows.specs.declared.row_visitor.WalkStop.{WalkStop}
use Rattle.drain_rows.specs.declared.row_visitor.WalkStop.TheVariants.{Source, OutOfMemory}
use Rattle.drain_grid.specs.Run.{RunEnds}
use Rattle.drain_grid.specs.declared.patch.Patch.{Patch}
use Rattle.drain_rules.specs.declared.walk.Area.{Area}
use Rattle.drain_rules.specs.declared.walk.Walk.{Walk}
use Rattle.drain_rules.specs.Walks.{IsRightOf}

-- these are all rows, after the last there is none, the grid's sinks are the listed ones, and its rows are spaced so
pub record AreRowsOf (g : Grid) (ps : Products) (sinks : List SinkLine) (spacing : ℕ → Distances) (rows : ℕ → RowNumbers) : Type 0 where
  pub row : (r : ℕ) → r < g.extent.rows → AreNumbersOf g ps r (rows r)
  pub last : rows g.extent.rows ≡ blank
  pub sinks_are : (c : Cell) → IsInside g c → g.sink c ≡ is_listed sinks c
  pub spaced : (r : ℕ) → r < g.extent.rows → g.spacing r ≡ spacing r

-- this holds of each grid of this extent, with these sinks and spaced so, whose rows are given
abbrev pub OfGrid : ((ℕ → RowNumbers) → ℕ → Type 0) → Extent → List SinkLine → (ℕ → Distances) → (Grid → Products → Type 0) → Type 0
OfGrid gives extent sinks spacing P =
    (rows : ℕ → RowNumbers) (g : Grid) (ps : Products) → gives rows 0 → g.extent ≡ extent → AreRowsOf g ps sinks spacing rows → P g ps

-- of the rows to come this is the next, and the others are left
abbrev pub IsNext : ((ℕ → RowNumbers) → ℕ → Type 0) → ((ℕ → RowNumbers) → ℕ → Type 0) → RowNumbers → Type 0
IsNext before after row = (rows : ℕ → RowNumbers) (r : ℕ) → before rows r → (row ≡ rows r) × after rows (r + 1)

-- whatever was read before, this number of calls was made since, up to where the source stopped, if it did
abbrev pub ReadsOn : {State Stop : Type 0} → (State → State → ℕ → Option Stop → Type 0) → State → State → ℕ → Option Stop → Type 0
ReadsOn {State} has_read before after calls told = (start : State) (n : ℕ) → has_read start before n None → has_read start after (n + calls) told

-- after this number of calls the source has stopped, or it has read on and memory ran out elsewhere
abbrev pub IsWalkStop : {State Stop : Type 0} → (State → State → ℕ → Option Stop → Type 0) → State → State → ℕ → Type 0 → WalkStop Stop → Type 0
IsWalkStop has_read before after calls Wants (Source stop) = ReadsOn has_read before after calls (Some stop)
IsWalkStop has_read before after calls Wants OutOfMemory = ReadsOn has_read before after calls None × Wants

-- the same after some calls
abbrev pub IsRowsStop : {State Stop : Type 0} → (State → State → ℕ → Option Stop → Type 0) → State → State → Type 0 → WalkStop Stop → Type 0
IsRowsStop has_read before after Wants stopped = (calls : ℕ) × IsWalkStop has_read before after calls Wants stopped

-- The paths of all data cells.

-- the path of every data cell ends
abbrev pub AllRunsEnd : Grid → Products → Type 0
AllRunsEnd g ps = (c : Cell) → HasData g c → RunEnds g ps c

-- The rows that are noted, and what a walk that stops at the first fault has found of them.

-- this holds of each grid and row that has these numbers and shows these patches
abbrev pub OfNotedRow : RowNumbers → ℕ → (ℕ → Patch) → (Grid → Products → ℕ → Type 0) → Type 0
OfNotedRow numbers cols shown P = (g : Grid) (ps : Products) (r : ℕ) → AreNumbersOf g ps r numbers → AreRowPatches g ps r cols shown → P g ps r

-- the walk has passed this number of rows, and its result is right under these rules
pub record IsWalkOf {L : Type 0} (compares : Bool) (judges : L → Area) (are_before : Grid → Products → Cell → L → Type 0) (rules : Rules) (g : Grid) (ps : Products) (rows : ℕ) (walk : Walk L) : Type 0 where
  pub rows_are : walk.rows ≡ rows
  pub right : IsRightOf compares judges are_before rules g ps walk.rows walk.labels walk.outcome

-- Listed sinks that are voids.

-- it lies in the grid, and is none of these voids
abbrev pub has_data_but : Extent → List Cell → Cell → Bool
has_data_but e voids c = nat_lt c.row e.rows && (nat_lt c.col e.cols && not (is_among voids c))

-- it is a cell of this row, marked as listed, and a void
abbrev pub is_listed_void : ℕ → List (Option ℤ) → List Bool → Cell → Bool
is_listed_void row z marks c =
    (c.row == row) && (nat_lt c.col (length z) && (slice_index_or marks c.col false && is_none (slice_index_or z c.col None)))

-- of the rows before this one, these are the listed sinks that are voids
abbrev pub AreVoidsBefore : Grid → ℕ → List Cell → Type 0
AreVoidsBefore g row voids = (c : Cell) → IsInside g c → is_among voids c ≡ (nat_lt c.row row && (g.sink c && is_none (g.elevation c)))

-- these are the listed sinks of the grid that are voids
abbrev pub AreListedVoids : Grid → List Cell → Type 0
AreListedVoids g voids = (c : Cell) → IsInside g c → is_among voids c ≡ (g.sink c && is_none (g.elevation c))
