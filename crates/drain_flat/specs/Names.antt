-- The names of other crates that this crate's definitions and contracts use, passed on from one place. Declares nothing.
pub use Rattle.drain_grid.specs.Patch.{HasLower, IsClosed, IsDataNeighbor}
pub use Rattle.drain_grid.specs.PatchRules.{FlatStepHolds, IsFlatStep, flow_rules}
pub use Rattle.drain_grid.specs.Unranked.{IsLevelStep, LevelStepHolds, level_rules}
pub use Rattle.drain_grid.specs.Values.{Values}
pub use Rattle.drain_grid.specs.declared.direction.Direction.{Direction}
pub use Rattle.std.specs.Prelude.{IsSome, IsTrue}
