-- The names of other crates that this crate's definitions and contracts use, passed on from one place. Declares nothing.
pub use Rattle.drain_answer.specs.declared.refusal.Refusal.{Refusal}
pub use Rattle.drain_grid.specs.Extent.{Extent, cells}
pub use Rattle.drain_grid.specs.Grid.{Grid, HasData, Products}
pub use Rattle.drain_grid.specs.declared.cell.Cell.{Cell}
pub use Rattle.drain_grid.specs.declared.judged.Rules.{Rules}
pub use Rattle.drain_hgt.specs.Inputs.{names_of}
pub use Rattle.drain_sets.specs.GivenSpacings.{GivenSpacing, by_row, spacing_from}
pub use Rattle.drain_text.specs.Text.{lines_of, whole_number, words_of}
pub use Rattle.drain_verdict.specs.DemGround.{IsDemHeader}
pub use Rattle.drain_verdict.specs.GroundSets.{AreNotesIn, ForSet, ForTexts, GroundSet, rules_in, set_grid, set_products}
pub use Rattle.drain_verdict.specs.Outcomes.{IsOutcomeIn}
pub use Rattle.drain_verdict.specs.Stages.{IsLayoutOf}
pub use Rattle.drain_verdict.specs.Uses.{UsesSet, set_devices}
pub use Rattle.std.specs.Prelude.{Err, IfOk, IfSome, IsSome, IsTrue, List, None, Ok, Option, Result, Some, [], length, nat_lt, option_map, slice_get, slice_index_or, take, ℕ, ℤ}
