-- The names of other crates that this crate's definitions and contracts use, passed on from one place. Declares nothing.
pub use Rattle.drain_flood.specs.Floods.{HasFirstMarks, IsBetween, IsFirstMark, IsSurfaceOf, con_at, listed_at}
pub use Rattle.drain_flood.specs.declared.layers.TheConstants.{UNREACHED, VOID}
pub use Rattle.drain_grid.specs.Extent.{Extent, IsCellOf, IsEarlier, index_of, step}
pub use Rattle.drain_grid.specs.Grid.{Grid, HasData, IsInside, Products, height_at}
pub use Rattle.drain_grid.specs.GridRules.{RulesHold}
pub use Rattle.drain_grid.specs.PatchRules.{surface_rules}
pub use Rattle.drain_grid.specs.Path.{Drains, IsLeastSurface, Surface}
pub use Rattle.drain_grid.specs.Rule.{IsFillRule}
pub use Rattle.drain_grid.specs.SinkTexts.{is_listed}
pub use Rattle.drain_grid.specs.Values.{IsPixel}
pub use Rattle.drain_grid.specs.declared.cell.Cell.{Cell}
pub use Rattle.drain_grid.specs.declared.direction.Direction.{Direction}
pub use Rattle.drain_grid.specs.declared.sink_line.SinkLine.{SinkLine}
pub use Rattle.std.specs.Prelude.{IfOk, IfSome, IsNone, IsSome, IsTrue, List, MatchOption, None, OnErr, OnOk, Option, Some, [], length, map, pos, slice_index_or, vec_len, ℕ, ℤ}
