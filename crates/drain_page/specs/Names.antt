-- The names of other crates that this crate's definitions and contracts use, passed on from one place. Declares nothing.
pub use Rattle.drain_answer.specs.OutcomeLines.{outcome_report_line}
pub use Rattle.drain_floats.specs.Patterns.{IsFloatNumber}
pub use Rattle.drain_floats.specs.Words.{IsFloatWord}
pub use Rattle.drain_grid.specs.declared.height_kind.HeightKind.{HeightKind}
pub use Rattle.drain_mosaic.specs.Tiling.{Tiling, north_of, west_of}
pub use Rattle.json.specs.Print.{IsPrintable, print}
pub use Rattle.json.specs.Token.{Token, begin_object, key, string}
pub use Rattle.std.specs.Prelude.{IfOk, IsTrue, List, Option, [], codes, length, map, neg_ℤ, option_and_then, pos, string_bytes, take, ℕ, ℤ}
