-- The names that this crate's proofs cite, passed on from one place. Declares nothing.
pub use Rattle.drain_floats.specs.Patterns.{IsFloatNumber}
pub use Rattle.drain_grid.specs.Values.{IsNoData}
pub use Rattle.drain_grid.specs.declared.height_kind.HeightKind.{HeightKind}
pub use Rattle.drain_grid.specs.declared.height_kind.HeightKind.TheVariants.{Single, Whole}
pub use Rattle.drain_header.specs.Faults.{Describes, DescribesOf}
pub use Rattle.drain_header.specs.Header.{AreWithinBounds, Fields, IsCoordinate, IsPixelSize}
pub use Rattle.drain_header.specs.Lines.{kind_of}
pub use Rattle.drain_header.specs.Text.{IsTextOf, IsTextOfKind, nodata_line, pixel_lines, place_lines, text_of}
pub use Rattle.drain_sets.specs.ProductHeaders.{bits_of, con_no_data, header_beside, header_on, no_height}
pub use Rattle.std.proofs.Common.{Bool, Err, IfOk, List, Ok, Result, [], ap, append-nil, arith, false, inl, inr, length, length-append, refl, rules, subst, sym, ℕ, ℤ, ◌*◌, ◌++◌, ◌/◌, ◌<◌, ◌∙◌, ◌≡◌, ◌≤◌}
pub use Rattle.std.proofs.lemmas.Int.{to_z-of_z}
