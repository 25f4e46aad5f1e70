-- The names of other crates that this crate's definitions and contracts use, passed on from one place. Declares nothing.
pub use Rattle.drain_floats.specs.Patterns.{is_finite, number_of}
pub use Rattle.drain_grid.specs.Values.{IsPixel}
pub use Rattle.std.specs.Ordering.{int_eq}
pub use Rattle.std.specs.Prelude.{All, Bool, IfSome, IsTrue, List, None, OnErr, OnOk, Option, Some, [], drop, false, int_le, int_lt, length, map, min, nat_le, neg_ℤ, negsuc, not, pos, slice_index, slice_index_or, true, ℕ, ℤ}
