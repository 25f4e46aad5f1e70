-- A list of sinks: the cells that a user lists as open, each with its line number. Inland sinks are this project's own.
use Rattle.std.specs.Prelude.{◌+◌, ◌*◌, ◌^◌, ◌<◌, ◌≡◌}
use Rattle.drain_grid.specs.Names.{ℕ, Bool, List, map, Option, Some, Result, Err, list_any, IsNonDecreasing, IsPermutation, lines_of}
use Rattle.std.specs.List.{All}
use Rattle.drain_grid.specs.declared.cell.Cell.{Cell}
use Rattle.drain_grid.specs.declared.sink_line.SinkLine.{SinkLine}
use Rattle.drain_grid.specs.Extent.{same_cell}
use Rattle.drain_grid.specs.Listings.{listing}
use Rattle.drain_grid.specs.declared.sink_text.SinkFault.{SinkFault}
use Rattle.drain_grid.specs.declared.sink_text.SinkFault.TheVariants.{BadSinkLine, OutOfMemory}

-- some line lists the cell
abbrev pub is_listed : List SinkLine → Cell → Bool
is_listed sinks c = list_any (λ s. same_cell c s.cell) sinks

-- the cell's place in row order on a grid of 2^32 columns: so each cell has a place of its own, whatever the grid
abbrev pub wide_place : Cell → ℕ
wide_place c = c.row * 2 ^ 32 + c.col

-- each listed column is below 2^32
abbrev pub AreNarrow : List SinkLine → Type 0
AreNarrow sinks = All (λ s. s.cell.col < 2 ^ 32) sinks

-- the places of the listed cells, rising
pub record ArePlaces (sinks : List SinkLine) (places : List ℕ) : Type 0 where
  pub rising : IsNonDecreasing places
  pub theirs : IsPermutation (map (λ s. wide_place s.cell) sinks) places
  pub narrow : AreNarrow sinks

-- Sink lists as texts: a line for each sink, its row and its column. The form is this project's own.

-- two whole numbers are a row and a column
abbrev pub sink_item : ℕ → ℕ → ℕ → Option SinkLine
sink_item number row col = Some (record { line = number; cell = record { row = row; col = col } })

-- what a text lists, whose lines are numbered from 1
abbrev pub sinks_of : List ℕ → Result (List SinkLine) ℕ
sinks_of text = listing sink_item 1 (lines_of text)

-- the first bad line; running out of memory says nothing of the text
abbrev pub IsSinkFault : List ℕ → SinkFault → Type 0
IsSinkFault text (BadSinkLine number) = sinks_of text ≡ Err number
IsSinkFault text OutOfMemory = Unit {0}
