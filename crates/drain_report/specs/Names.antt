-- The names of other crates that this crate's definitions and contracts use, passed on from one place. Declares nothing.
pub use Rattle.drain_grid.specs.Rule.{rule_number}
pub use Rattle.drain_grid.specs.Spacing.{Distances, IsSpacing}
pub use Rattle.drain_grid.specs.Values.{AreInRange, IsNoData, NoDataNumbers, Values}
pub use Rattle.drain_hgt.specs.Corner.{Corner, IsOnMap}
pub use Rattle.drain_hgt.specs.Name.{name_of}
pub use Rattle.drain_union.specs.Reports.{Agree, Report, is_accepted}
pub use Rattle.drain_union.specs.Sizes.{FitsNumbers}
pub use Rattle.drain_union.specs.declared.union_grid.UnionGrid.{UnionGrid}
pub use Rattle.drain_union.specs.declared.verdict.UnionVerdict.{UnionVerdict}
pub use Rattle.std.specs.Fmt.{signed_decimal}
pub use Rattle.std.specs.Prelude.{Bool, IfErr, IfOk, IfSome, IsOk, List, MatchOption, MatchResult, None, OnOk, Option, Some, [], codes, drop, get_or, length, pos, ℕ, ℤ}
