-- The names that this crate's proofs cite, passed on from one place. Declares nothing.
pub use Rattle.drain_answer.specs.declared.refusal.Refusal.TheVariants.{BadHeader, BadPixelSize, DemShort, OutOfMemory, ReadFailed}
pub use Rattle.drain_explain.specs.ElevationRanges.{AreBounds, IsElevationAbove, IsOfRow, IsRange, joined}
pub use Rattle.drain_explain.specs.Explanations.{AreFaultNotes, IsEndlessIn, IsEndlessOn, IsNamed, LeadsAt}
pub use Rattle.drain_explain.specs.RefusalDetails.{IsDemDetailOf, IsHeightAt, IsSetDetail, OfDem}
pub use Rattle.drain_faults.specs.FaultMaps.{IsMapOf, IsMapOfCells, OfNextRowDrawn}
pub use Rattle.drain_grid.specs.Extent.{Extent}
pub use Rattle.drain_grid.specs.Grid.{Grid, Products}
pub use Rattle.drain_grid.specs.declared.cell.Cell.{Cell}
pub use Rattle.drain_header.specs.Header.{Fields}
pub use Rattle.drain_paths.specs.declared.endless_path.EndlessPath.{EndlessPath}
pub use Rattle.drain_rules.specs.Rows.{AreNumbersOf, AreRowPatches, RowNumbers, place}
pub use Rattle.drain_text.specs.Text.{lines_of}
pub use Rattle.drain_verdict.proofs.InputLemmas.{no_memory_left, set_uses_none}
pub use Rattle.drain_verdict.specs.Deciding.{AreFlowsFor}
pub use Rattle.drain_verdict.specs.DemGround.{IsDemHeader}
pub use Rattle.drain_verdict.specs.GroundSets.{GroundSet, rules_in, set_grid, set_numbers, set_products}
pub use Rattle.drain_verdict.specs.Outcomes.{IsConOutcome, IsOutcome, IsRankOutcome, IsWayOutcome}
pub use Rattle.drain_verdict.specs.Uses.{UsesTold, set_devices}
pub use Rattle.std.proofs.Common.{Err, List, None, Option, Some, [], ap, arith, drop, inl, inr, is_some, length, option_map, refl, rules, slice_get, slice_index_or, subst, suc, sym, zero, ℕ, ℤ, ◌+◌, ◌-◌, ◌<◌, ◌↔◌, ◌∙◌, ◌∷◌, ◌≡◌, ◌≤ℤ◌, ◌≤◌, ◌⊎◌}
pub use Rattle.std.proofs.lemmas.Bool.{cond_both, false≢true}
pub use Rattle.std.proofs.lemmas.Int.{clamps, ints}
pub use Rattle.std.proofs.lemmas.List.{length-drop, length-take-le, take_all}
pub use Rattle.std.proofs.lemmas.Result.{err_from_is_err_and}
pub use Rattle.std.specs.Prelude.{IfSome, IsSome, ◌≢◌}
