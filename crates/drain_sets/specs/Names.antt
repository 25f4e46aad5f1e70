-- The names of other crates that this crate's definitions and contracts use, passed on from one place. Declares nothing.
pub use Rattle.drain_grid.specs.declared.height_kind.HeightKind.TheVariants.{Single, Whole}
pub use Rattle.drain_header.specs.Header.{Fields}
pub use Rattle.drain_header.specs.declared.header.ByteOrdering.TheVariants.{Least}
pub use Rattle.std.specs.Prelude.{Bool, Err, List, Ok, Result, Some, false, pos, true, unwrap_or, ℕ, ℤ}
