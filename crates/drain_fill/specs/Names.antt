-- The names of other crates that this crate's definitions and contracts use, passed on from one place. Declares nothing.
pub use Rattle.drain_grid.specs.Patch.{IsDataCell, IsDataNeighbor, IsOpen, height, neighbor}
pub use Rattle.drain_grid.specs.PatchRules.{BelowGroundHolds, NotLeastHolds, OpenRaisedHolds, OpenRaisedWithoutSpill, fill_rules, surface_rules}
pub use Rattle.drain_grid.specs.Rule.{IsAboveRule, IsFillRule, IsLeastFault, IsLevelRule, IsSpillRule}
pub use Rattle.drain_grid.specs.Values.{Values}
pub use Rattle.drain_grid.specs.declared.direction.Direction.{Direction}
pub use Rattle.std.specs.Int.{int_max, w16}
pub use Rattle.std.specs.Prelude.{FitsSigned, IfSome, IsNone, IsTrue, List, MatchOption, None, Option, Some, false, is_some, length, option_and_then, pos, slice_index_or, true, ℕ, ℤ}
