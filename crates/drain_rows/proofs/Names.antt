-- The names that this crate's proofs cite, passed on from one place. Declares nothing.
pub use Rattle.drain_grid.proofs.ByProduct.{as_each_held, by_set_product}
pub use Rattle.drain_grid.specs.CellLists.{is_among}
pub use Rattle.drain_grid.specs.Extent.{Extent, same_cell}
pub use Rattle.drain_grid.specs.Grid.{Grid, Products, patch_at}
pub use Rattle.drain_grid.specs.RulesAbout.{IsTried, part_rules, rules_about}
pub use Rattle.drain_grid.specs.Spacing.{Distances, spacing_of}
pub use Rattle.drain_grid.specs.Values.{IsPixel, NoDataNumbers}
pub use Rattle.drain_grid.specs.declared.cell.Cell.{Cell}
pub use Rattle.drain_grid.specs.declared.judged.Judged.{Judged}
pub use Rattle.drain_grid.specs.declared.set_product.SetProduct.TheVariants.{Acc, Bas, Dir, Rnk}
pub use Rattle.drain_rows.specs.GridRows.{AreListedVoids, AreRowsOf, AreVoidsBefore, IsRowsStop, IsWalkStop, OfGrid, ReadsOn, is_listed_void}
pub use Rattle.drain_rows.specs.RowBuffers.{IsMarked, LanesMatch, buffer_numbers, marked_of}
pub use Rattle.drain_rules.specs.Rows.{AreNumbersOf, AreRowNumbers, AreRowPatches, IsRowOf, MarkedRow, RowNumbers, blank, place}
pub use Rattle.drain_rules.specs.ThreeRows.{AreRowsAround, ThreeRowsShowPatches, patch_in}
pub use Rattle.std.proofs.Common.{Err, IfErr, List, None, Ok, OnOk, Option, Result, Some, [], ap, arith, false, inl, inr, is_none, length, nat_lt, refl, rules, subst, sym, true, ℕ, ℤ, ◌&&◌, ◌+◌, ◌<◌, ◌==◌, ◌||◌, ◌∙◌, ◌≡◌}
pub use Rattle.std.proofs.lemmas.Bool.{cases_eq, cases_lt, false≢true, le-ltb, lt-ltb}
