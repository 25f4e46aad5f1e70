-- The names of other crates that this crate's definitions and contracts use, passed on from one place. Declares nothing.
pub use Rattle.std.specs.Io.KnownBytes.{Appends, Consumes, IsAtEnd, Keeps, ReadConsumes, WriteAppends}
pub use Rattle.std.specs.Prelude.{Bool, Err, IfOk, IsErr, IsErrOf, IsOkUnless, List, None, Ok, OnErr, Option, Result, Some, [], drop, false, length, max, min, suc, take, true, vec_capacity, vec_len, zero, ℕ, ℤ}
