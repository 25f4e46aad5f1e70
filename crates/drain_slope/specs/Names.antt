-- The names of other crates that this crate's definitions and contracts use, passed on from one place. Declares nothing.
pub use Rattle.drain_grid.specs.Direction.{Names, order_of}
pub use Rattle.drain_grid.specs.HeightKinds.{digits_of, height_of, shift_of, single_height}
pub use Rattle.drain_grid.specs.Patch.{IsDataCell, IsOpen, neighbor}
pub use Rattle.drain_grid.specs.Slope.{IsFirstSteepest, IsSteepest, slope_key}
pub use Rattle.drain_grid.specs.Spacing.{IsSpacing, weight_of}
pub use Rattle.drain_grid.specs.Values.{IsPixel, Values}
pub use Rattle.std.specs.Prelude.{Bool, IsTrue, None, Option, Some, int_lt, is_some, neg_ℤ, pos, ℕ, ℤ}
