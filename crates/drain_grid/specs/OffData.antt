-- Line numbers, kept by runs of consecutive lines: the first number gives them all. Runs are this project's own.
use Rattle.std.specs.Prelude.{◌≡◌, ◌+◌, ◌-◌, ◌^◌, ◌<◌, ◌≤◌, ◌∷◌, if◌then◌else◌, ◌&&◌}
use Rattle.drain_grid.specs.Names.{ℕ, leb, List, [], length, slice_index_or, nat_lt, is_some, Bool, true, false, slice_get, Option, Some, None, MatchOption, fold, IsNonDecreasingBy}
use Rattle.std.specs.List.{All}
use Rattle.drain_grid.specs.declared.cell.Cell.{Cell}
use Rattle.drain_grid.specs.declared.numbered_cells.LineRun.{LineRun}
use Rattle.drain_grid.specs.declared.sink_line.SinkLine.{SinkLine}
use Rattle.drain_grid.specs.Grid.{Grid, HasData, Heights}
use Rattle.drain_grid.specs.WholeGrid.{elevation_at}

-- a run that begins at or before the cell counts on to the cell's line; one that begins later says nothing of it
abbrev pub counted_on : ℕ → ℕ → LineRun → ℕ
counted_on i number run = if leb run.first i then run.line + (i - run.first) else number

-- the line number of the i-th cell, given by the last such run
abbrev pub line_number_at : List LineRun → ℕ → ℕ
line_number_at runs i = fold (counted_on i) 0 runs

-- the cells with their line numbers, where the first of them is the i-th
abbrev pub numbered_from : ℕ → List LineRun → List Cell → List SinkLine
numbered_from i runs [] = []
numbered_from i runs (c ∷ cells) = record { line = line_number_at runs i; cell = c } ∷ numbered_from (i + 1) runs cells

-- the same from the first cell on
abbrev pub numbered : List LineRun → List Cell → List SinkLine
numbered runs cells = numbered_from 0 runs cells

-- runs that give the lines of n cells: they begin in order, the first at the first cell, and the numbers fit 64 bits
pub record AreRuns (runs : List LineRun) (count : ℕ) : Type 0 where
  pub rising : IsNonDecreasingBy (λ run. run.first) runs
  pub within : All (λ run. run.first ≤ count) runs
  pub begun : (d : LineRun) → 0 < length runs → (slice_index_or runs 0 d).first ≡ 0
  pub told : 0 < count → 0 < length runs
  pub fit : (i : ℕ) → i < count → line_number_at runs i < 2 ^ 64

-- Listed sinks that are no data cells.

-- the cell lies in the grid of these elevations, and has one
abbrev pub has_data : Heights → Cell → Bool
has_data e c = nat_lt c.row e.extent.rows && (nat_lt c.col e.extent.cols && is_some (elevation_at e c))

-- a line of this number lists a cell that is no data cell: a void, or outside the grid
pub record IsOffData (g : Grid) (sinks : List SinkLine) (line : ℕ) : Type 0 where
  pub place : ℕ
  pub listed : SinkLine
  pub is_there : slice_get sinks place ≡ Some listed
  pub line_is : listed.line ≡ line
  pub no_data : ¬ HasData g listed.cell

-- of the first n lines that list a cell without data, this is the least number
pub record IsLeastLine (has : Cell → Bool) (sinks : List SinkLine) (n line : ℕ) : Type 0 where
  pub place : ℕ
  pub listed : SinkLine
  pub before : place < n
  pub is_there : slice_get sinks place ≡ Some listed
  pub line_is : listed.line ≡ line
  pub off : has listed.cell ≡ false
  pub least : (k : ℕ) (s : SinkLine) → k < n → slice_get sinks k ≡ Some s → has s.cell ≡ false → line ≤ s.line

-- the same, none where each of them lists a data cell
abbrev pub IsLeastOff : (Cell → Bool) → List SinkLine → ℕ → Option ℕ → Type 0
IsLeastOff has sinks n found = MatchOption found ((k : ℕ) (s : SinkLine) → k < n → slice_get sinks k ≡ Some s → has s.cell ≡ true) (IsLeastLine has sinks n)

-- this is the least line that lists a cell without data
pub record IsFirstOffData (g : Grid) (sinks : List SinkLine) (line : ℕ) : Type 0 where
  pub off : IsOffData g sinks line
  pub first : (n : ℕ) → n < line → ¬ IsOffData g sinks n

-- it is found, and none if each line lists a data cell
abbrev pub IsOffAnswer : Grid → List SinkLine → Option ℕ → Type 0
IsOffAnswer g sinks None = (n : ℕ) → ¬ IsOffData g sinks n
IsOffAnswer g sinks (Some line) = IsFirstOffData g sinks line

-- if these answers are right for each listed cell, the line found is right for the grid
abbrev pub FoundOffDataIsRight : Type 0
FoundOffDataIsRight =
    (g : Grid) (sinks : List SinkLine) (has : Cell → Bool) (found : Option ℕ) →
    ((k : ℕ) (s : SinkLine) → slice_get sinks k ≡ Some s → (has s.cell ≡ true → HasData g s.cell) × (has s.cell ≡ false → ¬ HasData g s.cell)) →
    IsLeastOff has sinks (length sinks) found → IsOffAnswer g sinks found
