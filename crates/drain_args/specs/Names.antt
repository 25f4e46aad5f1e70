-- The names of other crates that this crate's definitions and contracts use, passed on from one place. Declares nothing.
pub use Rattle.clap.specs.Matches.{first_value, found_of, matched_of, one_text, raw_values}
pub use Rattle.drain_grid.specs.Spacing.{Distances, IsSpacing}
pub use Rattle.drain_grid.specs.declared.cell.Cell.{Cell}
pub use Rattle.drain_union.specs.Windows.{IsOrigin}
pub use Rattle.drain_union.specs.declared.place.Place.{Place}
pub use Rattle.std.specs.List.{list_all, list_any, slice_index_or, slice_split}
pub use Rattle.std.specs.Prelude.{Bool, IfOk, IfSome, List, MatchOption, None, Option, Some, [], codes, false, find, length, map, nat_lt, not, option_and_then, option_map, true, unwrap_or, ℕ}
pub use Rattle.std.specs.Str.Parse.{AllDigits, digits_value, without_leading_plus}
