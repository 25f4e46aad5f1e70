-- The names of other crates that this crate's definitions and contracts use, passed on from one place. Declares nothing.
pub use Rattle.drain_grid.specs.CellLists.{is_among}
pub use Rattle.drain_grid.specs.Extent.{Extent, same_cell}
pub use Rattle.drain_grid.specs.Grid.{Grid, HasData, IsInside, Products}
pub use Rattle.drain_grid.specs.SinkTexts.{is_listed}
pub use Rattle.drain_grid.specs.Spacing.{Distances, spacing_of}
pub use Rattle.drain_grid.specs.declared.cell.Cell.{Cell}
pub use Rattle.drain_grid.specs.declared.cell.TheConstants.{MAX_LENGTH}
pub use Rattle.drain_grid.specs.declared.judged.Rules.{Rules}
pub use Rattle.drain_grid.specs.declared.sink_line.SinkLine.{SinkLine}
pub use Rattle.drain_rules.specs.Rows.{AreNumbersOf, AreRowNumbers, AreRowPatches, MarkedRow, RowNumbers, blank}
pub use Rattle.drain_rules.specs.ThreeRows.{patch_in}
pub use Rattle.drain_rules.specs.Verdicts.{IsVerdictBy}
pub use Rattle.std.specs.Prelude.{Bool, IfErr, IfOk, IsTrue, List, MatchOption, None, OnErr, OnOk, Option, Some, [], false, is_none, length, nat_lt, not, slice_index_or, ℕ, ℤ}
