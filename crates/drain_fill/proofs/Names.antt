-- The names that this crate's proofs cite, passed on from one place. Declares nothing.
pub use Rattle.drain_fill.specs.Below.{AreRowHeights, IsBelowAt}
pub use Rattle.drain_grid.proofs.AllRules.{fails_alone, found_first, found_next, holds_alone}
pub use Rattle.drain_grid.proofs.Neighbors.{any_direction, same_direction}
pub use Rattle.drain_grid.specs.Direction.{Names, directions}
pub use Rattle.drain_grid.specs.Patch.{HasLower, IsClosed, IsDataCell, IsDataNeighbor, height, neighbor}
pub use Rattle.drain_grid.specs.PatchRules.{NoSpillHolds, NotLeastHolds, OfSpillParent, OpenRaisedWithoutSpill, SpillHeightHolds, SpillRankHolds, fill_rules, surface_rules}
pub use Rattle.drain_grid.specs.Values.{Values}
pub use Rattle.drain_grid.specs.declared.direction.Direction.{Direction}
pub use Rattle.drain_grid.specs.declared.patch.Patch.{Patch}
pub use Rattle.drain_grid.specs.declared.rule.Rule.TheVariants.{BelowGround, NoSpill, NotLeast, OpenRaised, SpillHeight, SpillRank}
pub use Rattle.std.proofs.Common.{Bool, FitsSigned, IfSome, IsSome, IsTrue, List, MatchOption, None, Option, Some, [], ap, ap₂, arith, below_more, cond, false, get_or, if◌then◌else◌, inl, inr, int_lt, is_some, length, map, not, of_z, option_and_then, option_map, pos, refl, rules, subst, suc, sym, tests, to_z, true, unwrap_or, w16, zero, ℕ, ℤ, ◌%◌, ◌+◌, ◌-◌, ◌<ℤ◌, ◌<◌, ◌^◌, ◌↔◌, ◌∙◌, ◌∷◌, ◌≡◌, ◌≤ℤ◌, ◌≤◌, ◌⊎◌}
pub use Rattle.std.proofs.lemmas.Bool.{false≢true}
pub use Rattle.std.proofs.lemmas.Int.{by_lt_z, clamps, ints, to_z-of_z}
pub use Rattle.std.specs.Int.{int_max}
pub use lib.Count.{count_trailing_zeros}
