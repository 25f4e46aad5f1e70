-- The names that this crate's proofs cite, passed on from one place. Declares nothing.
pub use Rattle.drain_basin.specs.Admitted.{IsAdmitted, LabelSet}
pub use Rattle.drain_faults.specs.ByProduct.{AreFaultsByProduct, AreProductsNotedAt, IsProductNotedAt, MissingHoldsOf, VoidCellHoldsOf}
pub use Rattle.drain_faults.specs.CellFaults.{AllHoldAt, HoldsIfTried, IsFirstNoted, IsLeastAt, IsNotedAt, IsWith, IsWithFault, TellsFault, of_rule}
pub use Rattle.drain_faults.specs.FaultMaps.{AreDrawn, AreMapPixels, IsMapOfCells, IsMapPixel, OfRowDrawn, fault_pixel}
pub use Rattle.drain_faults.specs.FaultWalks.{IsFound, IsFoundAbove, IsFoundBefore, IsNewOutletAt, OfRowFound, OfRowPatches, cells_before}
pub use Rattle.drain_faults.specs.Faults.{AreCellsWithout, AreFaultsOf, IsFirstFaulty, IsFirstPatch, IsFirstWithout, IsNumberWithout}
pub use Rattle.drain_faults.specs.declared.patch_faults.FaultyPatch.{FaultyPatch}
pub use Rattle.drain_faults.specs.declared.patch_faults.RuleFaults.{RuleFaults}
pub use Rattle.drain_faults.specs.declared.row_faults.FaultTally.{FaultTally}
pub use Rattle.drain_grid.proofs.AllRules.{numbered, same_rule}
pub use Rattle.drain_grid.proofs.ByProduct.{by_set_product}
pub use Rattle.drain_grid.specs.Extent.{Extent, IsEarlier, row_cells}
pub use Rattle.drain_grid.specs.Grid.{Grid, IsInside, Products, patch_at, values_at}
pub use Rattle.drain_grid.specs.GridRules.{HoldsAt, IsFirstFault, RulesHold}
pub use Rattle.drain_grid.specs.Judged.{IfJudged, has_acc, has_bas, has_dir, has_product, has_rnk}
pub use Rattle.drain_grid.specs.PatchRules.{BadCodeWithoutSpill, BelowGroundHolds, NotLeastHolds, OpenRaisedWithoutSpill, Profile, flow_rules, surface_rules}
pub use Rattle.drain_grid.specs.PerProduct.{of_product}
pub use Rattle.drain_grid.specs.Rule.{IsAnyRule, IsFillRule, IsLeastFault, IsOnly, IsPatchRule, IsPresenceRule, IsSlopeRule, rule_number}
pub use Rattle.drain_grid.specs.RulesAbout.{IsTried, part_rules, rules_about, tried}
pub use Rattle.drain_grid.specs.Values.{NoDataNumbers, number_for, value_of}
pub use Rattle.drain_grid.specs.declared.cell.Cell.{Cell}
pub use Rattle.drain_grid.specs.declared.judged.Judged.{Judged}
pub use Rattle.drain_grid.specs.declared.judged.Rules.{Rules}
pub use Rattle.drain_grid.specs.declared.patch.Patch.{Patch}
pub use Rattle.drain_grid.specs.declared.rule.Rule.{Rule}
pub use Rattle.drain_grid.specs.declared.rule.Rule.TheVariants.{Accumulation, BadCode, BelowGround, FlatStep, Label, Missing, NoSpill, NotLeast, OpenRaised, OutletCode, SharedLabel, Slope, SpillHeight, SpillRank, VoidCell}
pub use Rattle.drain_kernel.specs.Columns.{IsKept}
pub use Rattle.drain_rules.proofs.Faults.{IsLeastFault-same, flow_with, labelled-HoldsAt, patch_tried, surface_with, whole}
pub use Rattle.drain_rules.proofs.GridLemmas.{IsFirstFault-row, cells_above-more}
pub use Rattle.drain_rules.proofs.RowLemmas.{CountsAlong-more, IsRowFault-cell, along_run}
pub use Rattle.drain_rules.specs.Fill.{IsRightVoid}
pub use Rattle.drain_rules.specs.Labels.{AreLabelsBefore, IsLabelOf, IsOutletByCode, labelled_profile}
pub use Rattle.drain_rules.specs.Rows.{AreRowPatches, CountsAlong, IsAtMost, place}
pub use Rattle.drain_rules.specs.Walks.{CountsAbove, cells_above}
pub use Rattle.std.proofs.Common.{Bool, IsNone, IsTrue, List, None, Option, Some, [], add-one, ap, append_assoc, arith, below_more, false, get_or, inl, inr, int_lt, is_some, length, length-append, not, pos, refl, subst, suc, sym, true, unwrap_or, zero, ℕ, ℤ, ◌&&◌, ◌*◌, ◌++◌, ◌+◌, ◌-◌, ◌<◌, ◌^◌, ◌∙◌, ◌∷◌, ◌≡◌, ◌≢◌, ◌≤◌, ◌⊎◌}
pub use Rattle.std.proofs.lemmas.Bool.{cases_lt, false≢true, true≢false}
pub use Rattle.std.proofs.lemmas.List.{append-nil}
pub use Rattle.std.proofs.lemmas.List.FromFn.{length-map-range_with_len, map-range_with_len_more}
pub use Rattle.std.specs.Prelude.{replicate}
