-- The names that this crate's proofs cite, passed on from one place. Declares nothing.
pub use Rattle.drain_filled.specs.Compared.{AreOneBefore, AreOneSurface, HasCellsOf, HasHeights, HasMark, IsFirstOther, IsFirstUnfilled}
pub use Rattle.drain_filled.specs.ConRows.{AreFirstCon, ConLists, HasSinks, IsGroundAndCon, mark_of, with_row}
pub use Rattle.drain_filled.specs.Grounds.{ArePixelHeights, DataCells, HasDataCells, IsGapBeside, IsVoided, data_mark, listed_grid}
pub use Rattle.drain_flood.proofs.Cells.{none_or_some, one_more, with_next, within}
pub use Rattle.drain_flood.proofs.Looking.{flood_is_filled}
pub use Rattle.drain_flood.specs.Floods.{Flooding, HasFirstMarks, IsBetween, IsFirstMark, IsSurfaceOf, con_at, listed_at, mark_at}
pub use Rattle.drain_flood.specs.declared.layers.TheConstants.{UNREACHED}
pub use Rattle.drain_grid.proofs.Alike.{before_row, earlier_index, same_index}
pub use Rattle.drain_grid.proofs.Lowered.{HasData-path, con_below, con_below_crest, least_at_open, least_beside, levels}
pub use Rattle.drain_grid.proofs.Neighbors.{AreNeighbors-lies, of_each, step_lies}
pub use Rattle.drain_grid.proofs.OpenCells.{IsOpenAmong-alike, gap_from_void}
pub use Rattle.drain_grid.proofs.Runs.{index_of-below}
pub use Rattle.drain_grid.specs.Direction.{directions}
pub use Rattle.drain_grid.specs.Extent.{Extent, IsCellOf, index_of, step}
pub use Rattle.drain_grid.specs.Grid.{Grid, HasData, IsInside, IsOpenCell, Products, height_at}
pub use Rattle.drain_grid.specs.Open.{IsGap, IsOpenAmong}
pub use Rattle.drain_grid.specs.Path.{CoversGround, Drains, IsLeastSurface, IsPath, NeverRises, Surface}
pub use Rattle.drain_grid.specs.declared.cell.Cell.{Cell}
pub use Rattle.drain_grid.specs.declared.direction.Direction.{Direction}
pub use Rattle.drain_grid.specs.declared.direction.Direction.TheVariants.{East}
pub use Rattle.drain_grid.specs.declared.rule.Rule.TheVariants.{BelowGround}
pub use Rattle.drain_grid.specs.declared.sink_line.SinkLine.{SinkLine}
pub use Rattle.std.proofs.Common.{Bool, IsNone, IsSome, IsTrue, List, MatchOption, None, Option, Some, [], ap, arith, below_more, false, get_or, if◌then◌else◌, inl, inr, length, length-append, map, option_map, pos, refl, rules, set, slice_index_or, subst, sym, true, unwrap_or, ℕ, ℤ, ◌*◌, ◌++◌, ◌+◌, ◌<ℤ◌, ◌<◌, ◌==◌, ◌∙◌, ◌∷◌, ◌≡◌, ◌≢◌, ◌≤ℤ◌, ◌≤◌, ◌⊎◌}
pub use Rattle.std.proofs.lemmas.Bool.{cases_eq, cases_order, eq-eqb, false≢true, ne_eqb}
pub use Rattle.std.proofs.lemmas.Int.{ints, to_z-of_z}
pub use Rattle.std.proofs.lemmas.List.{ext_get_or, get_or-append-add, get_or-map, get_or_append_left, get_or_default, length-map, length-set}
pub use Rattle.std.proofs.lemmas.Result.{IfOk-weaker}
pub use Rattle.std.specs.List.{AllByRecursion}
pub use mir.Val.{SFits}
