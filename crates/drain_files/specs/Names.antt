-- The names of other crates that this crate's definitions and contracts use, passed on from one place. Declares nothing.
pub use Rattle.drain_answer.specs.Printing.{PrintsText, line_feed}
pub use Rattle.drain_device.specs.Counts.{Answered, no_faults}
pub use Rattle.drain_grid.specs.Product.{product_name}
pub use Rattle.drain_grid.specs.Spacing.{Distances, IsSpacing, unit_spacing}
pub use Rattle.drain_hgt.specs.Inputs.{names_of}
pub use Rattle.drain_sets.specs.FileWrites.{WritesFile, WritesFiles}
pub use Rattle.drain_sets.specs.GivenSpacings.{GivenSpacing, by_row, same, spacing_from}
pub use Rattle.drain_sets.specs.declared.set_files.SetFault.{SetFault}
pub use Rattle.std.specs.Int.{IsGcd}
pub use Rattle.std.specs.Io.KnownBytes.{Consumes, IsAtEnd}
pub use Rattle.std.specs.List.{All, AllZip, ends_with}
pub use Rattle.std.specs.Prelude.{Err, IfErr, IfOk, IsErrOf, IsTrue, List, MatchOption, None, Ok, OnErr, Option, Result, Some, [], codes, decimal, length, map, pos, replicate, string_bytes, vec_len, ℕ}
