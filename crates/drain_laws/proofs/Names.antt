-- The names that this crate's proofs cite, passed on from one place. Declares nothing.
pub use Rattle.drain_grid.proofs.Alike.{RunEnds-alike, run_end-alike, run_steps-alike, same_index, upstream-alike}
pub use Rattle.drain_grid.proofs.Decisions.{Decision, both, cases, either, same, some_direction}
pub use Rattle.drain_grid.proofs.Exactly.{correct_by_rules_alone, correct_is_local}
pub use Rattle.drain_grid.proofs.Lowered.{HasData-path, least_at_open, least_beside}
pub use Rattle.drain_grid.proofs.Neighbors.{AreNeighbors-lies, direction_between, step_gives, step_lies}
pub use Rattle.drain_grid.proofs.PatchDecisions.{data_cell, has_lower, is_cell_of, is_lower_at, is_open}
pub use Rattle.drain_grid.proofs.Patches.{IsOpen-patch_at, cell_shown, neighbor-patch_at, shown_cell}
pub use Rattle.drain_grid.proofs.Runs.{HasData-next, cell_count, least_from_rules_profile2, runs_end, steps-more, steps-next}
pub use Rattle.drain_grid.proofs.Slopes.{HasLower-lower_cell, IsSteepest-cell, lower_shown, steepest_cell}
pub use Rattle.drain_grid.proofs.Tallies.{none_some, same_some, void_data}
pub use Rattle.drain_grid.proofs.WithoutRanks.{total-same}
pub use Rattle.drain_grid.specs.Direction.{IsCode, Names, code_of, directions, named_direction, names, opposite}
pub use Rattle.drain_grid.specs.Extent.{Extent, IsCellOf, cells, index_of, same_cell, step}
pub use Rattle.drain_grid.specs.Grid.{Grid, HasData, IsInside, IsOpenCell, Products, height_at, patch_at, values_at}
pub use Rattle.drain_grid.specs.GridRules.{HoldsAt, RulesHold, SharedLabelHolds, is_data}
pub use Rattle.drain_grid.specs.HeightKinds.{digits_of, height_of, magnitude_of, shift_of, single_height}
pub use Rattle.drain_grid.specs.Patch.{HasLower, IsClosed, IsDataNeighbor, IsLower, IsLowerAt, IsOpen, height, neighbor}
pub use Rattle.drain_grid.specs.PatchRules.{AccumulationHolds, BadCodeWithoutSpill, BelowGroundHolds, FlatStepHolds, LabelHolds, MissingWithoutSpill, NotLeastHolds, OpenRaisedWithoutSpill, OutletCodeHolds, Profile, SlopeHolds, VoidCellWithoutSpill, check_rules, flow_rules, inflow, surface_rules}
pub use Rattle.drain_grid.specs.Path.{Drains, IsLeastSurface, IsPath, NeverRises}
pub use Rattle.drain_grid.specs.Rule.{IsAnyRule, IsBetween, IsCountRule, IsFillRule, IsFlowRule, IsLabelRule, IsWayRule}
pub use Rattle.drain_grid.specs.RulesAbout.{IsBlankPart, IsCompletePart, IsPartRule, part_rules}
pub use Rattle.drain_grid.specs.Run.{IsFlatCell, IsLowerCell, IsSteepestCell, RunEnds, ShareBasin, continued, drains_through, last_from, next, only_data, run_end, steps_from, upstream_count}
pub use Rattle.drain_grid.specs.SetProduct.{product_of}
pub use Rattle.drain_grid.specs.Slope.{IsSteepest, key_to, slope_key}
pub use Rattle.drain_grid.specs.Unranked.{LevelStepHolds, MissingWithoutRank, RanksAreSteps, VoidCellWithoutRank, run_steps, unranked}
pub use Rattle.drain_grid.specs.Values.{NoDataNumbers, Values, number_for, value_of}
pub use Rattle.drain_grid.specs.declared.cell.Cell.{Cell}
pub use Rattle.drain_grid.specs.declared.direction.Direction.{Direction}
pub use Rattle.drain_grid.specs.declared.judged.Judged.TheVariants.{All, AllWithRanks, Con, ConDir, ConDirAcc, ConDirBas}
pub use Rattle.drain_grid.specs.declared.patch.Patch.{Patch}
pub use Rattle.drain_grid.specs.declared.rule.Rule.{Rule}
pub use Rattle.drain_grid.specs.declared.rule.Rule.TheVariants.{Accumulation, BadCode, BelowGround, FlatStep, Label, Missing, NoSpill, NotLeast, OpenRaised, OutletCode, SharedLabel, Slope, SpillHeight, SpillRank, VoidCell}
pub use Rattle.drain_laws.specs.Laws.{AreKept, CountsAreKept, EveryGridCanBePadded, HaveOneFirstFault, HaveOneVerdict, HoldBeyond, PaddingBreaksNoRule, PaddingKeepsAccumulation, PaddingKeepsBasins, PaddingKeepsChecks, PaddingKeepsCorrect, PaddingKeepsCounts, PaddingKeepsData, PaddingKeepsFirstEndless, PaddingKeepsFirstFault, PaddingKeepsOpen, PaddingKeepsRules, PaddingKeepsRuns, PaddingKeepsSteps, PaddingKeepsTallies, PaddingKeepsVerdict, resized}
pub use Rattle.drain_laws.specs.Padding.{ArePadded, ArePaddedRanks, AreSameAt, IsPadded}
pub use Rattle.drain_laws.specs.PartOf.{IsPartOfCorrect, IsRightSurface, IsSomeWays, PartIsLocal, SurfaceIsPart, joined, joined_numbers}
pub use Rattle.std.proofs.Common.{Bool, IsNone, IsSome, IsTrue, List, None, Option, Some, [], ap, arith, cond, false, if◌then◌else◌, inl, inr, int_lt, is_some, length, negsuc, option_and_then, option_map, pos, refl, subst, suc, sym, true, unwrap_or, zero, ℕ, ℤ, ◌%◌, ◌&&◌, ◌*◌, ◌+ℤ◌, ◌+◌, ◌-ℤ◌, ◌-◌, ◌/◌, ◌<ℤ◌, ◌<◌, ◌^◌, ◌↔◌, ◌∙◌, ◌∷◌, ◌≡◌, ◌≢◌, ◌≤ℤ◌, ◌≤◌, ◌⊎◌}
pub use Rattle.std.proofs.lemmas.Bool.{cases_lt, cases_order, false_from_ne_true, false≢true}
pub use Rattle.std.proofs.lemmas.Int.{by_lt_z, ints}
pub use Rattle.std.specs.Int.{int_max}
pub use Rattle.std.specs.List.{list_any, sum_by}
