-- The names of other crates that this crate's definitions and contracts use, passed on from one place. Declares nothing.
pub use Rattle.drain_text.specs.Text.{lines_of, whole_number, words_of}
pub use Rattle.std.specs.List.{AllByRecursion, AllPairs, Any, count_by, find, flat_map, fold, list_any, range_with_len}
pub use Rattle.std.specs.List.Sorted.{IsNonDecreasing, IsNonDecreasingBy, IsPermutation}
pub use Rattle.std.specs.Prelude.{Bool, Err, IsErr, IsTrue, List, MatchOption, None, Ok, OnOk, Option, Result, Some, [], false, int_lt, is_some, leb, length, map, nat_eq, nat_le, nat_lt, negsuc, option_and_then, pos, slice_get, slice_index_or, suc, true, zero, ℕ, ℤ}
