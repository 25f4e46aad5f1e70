-- The names that this crate's proofs cite, passed on from one place. Declares nothing.
pub use Rattle.drain_grid.specs.Correct.{GoesSteepest, IsBlankAt, IsCompleteAt, IsCorrect, NeverClimbs, RunsAreSound}
pub use Rattle.drain_grid.specs.Direction.{IsCode, Names, NamesSome, code_of, cols_right, directions, is_straight, named_direction, names, opposite, order_of, rows_down}
pub use Rattle.drain_grid.specs.Extent.{Extent, IsCellOf, IsEarlier, cells, index_of, same_cell, step}
pub use Rattle.drain_grid.specs.Grid.{AreNeighbors, Grid, HasData, IsInside, IsOpenCell, IsSample, Products, height_at, no_sink, patch_at, values_at}
pub use Rattle.drain_grid.specs.GridRules.{IsEarlierPair, IsFirstFault, RulesHold, SharedLabelHolds}
pub use Rattle.drain_grid.specs.HeightKinds.{digits_of, height_of, magnitude_of, shift_of, single_height}
pub use Rattle.drain_grid.specs.Laws.{CorrectByRulesAlone, CorrectFromRules, CorrectIsLocal, CountsUpstream, LabelsAreBasins, LeastFromRules, LeastFromRulesProfile2, Profile2FromProfile1, RanksPlayNoPart, RulesAreCorrect, RulesFromCorrect, RunsEnd, RunsEndByCounts, SoundFromCorrect}
pub use Rattle.drain_grid.specs.Listings.{line_says, listing, with_item, with_line}
pub use Rattle.drain_grid.specs.OffData.{FoundOffDataIsRight, counted_on, line_number_at, numbered, numbered_from}
pub use Rattle.drain_grid.specs.Open.{IsGap, IsOpenAmong, Sight}
pub use Rattle.drain_grid.specs.Patch.{HasLower, IsClosed, IsDataCell, IsDataNeighbor, IsLower, IsLowerAt, IsOpen, height, neighbor}
pub use Rattle.drain_grid.specs.PatchRules.{AccumulationHolds, BadCodeWithoutSpill, BelowGroundHolds, FlatStepHolds, LabelHolds, MissingWithoutSpill, NotLeastHolds, OpenRaisedWithoutSpill, OutletCodeHolds, Profile, SlopeHolds, VoidCellHolds, VoidCellWithoutSpill, check_rules, fill_rules, flow_rules, inflow, profile1, profile2, surface_rules, total}
pub use Rattle.drain_grid.specs.Path.{CoversGround, Drains, IsCrest, IsFilled, IsLeastSurface, IsPath, NeverRises, Surface}
pub use Rattle.drain_grid.specs.Rule.{IsAnyRule, IsBetween, IsCountRule, IsFillRule, IsFlowRule, IsLabelRule, IsLeastFault, IsOnly, IsPresenceRule, IsWayRule, rule_number}
pub use Rattle.drain_grid.specs.Run.{IsFlatCell, IsLowerCell, IsOutlet, IsSteepestCell, RunEnds, ShareBasin, VisitsOnce, continued, drains_through, key_between, last_from, next, only_data, run, run_end, steps_from, upstream_count}
pub use Rattle.drain_grid.specs.SetProduct.{OfSetProduct, product_of, rank_of}
pub use Rattle.drain_grid.specs.SinkTexts.{AreNarrow, ArePlaces, is_listed, sink_item, sinks_of, wide_place}
pub use Rattle.drain_grid.specs.Slope.{IsFirstSteepest, IsSteepest, key_to, slope_key}
pub use Rattle.drain_grid.specs.Spacing.{Distances, IsSpacing, col_square, corner_square, distance_square, of_kind, row_square, unit_spacing, weight_between, weight_of}
pub use Rattle.drain_grid.specs.Unranked.{EndsAfter, IsBlankWithoutRank, IsCompleteWithoutRank, LevelStepHolds, MissingWithoutRank, RanksAreSteps, VoidCellWithoutRank, level_rules, run_steps, unranked, with_rank_nodata, with_ranks}
pub use Rattle.drain_grid.specs.Values.{IsBlankWithoutSpill, IsComplete, IsCompleteWithoutSpill, IsPixel, NoDataNumbers, Values, number_for, value_of}
pub use Rattle.drain_grid.specs.declared.cell.Cell.{Cell}
pub use Rattle.drain_grid.specs.declared.direction.Direction.{Direction}
pub use Rattle.drain_grid.specs.declared.direction.Direction.TheVariants.{East, North, NorthEast, NorthWest, South, SouthEast, SouthWest, West}
pub use Rattle.drain_grid.specs.declared.height_kind.HeightKind.{HeightKind}
pub use Rattle.drain_grid.specs.declared.height_kind.HeightKind.TheVariants.{Single, Whole}
pub use Rattle.drain_grid.specs.declared.patch.Patch.{Patch}
pub use Rattle.drain_grid.specs.declared.rule.Rule.{Rule}
pub use Rattle.drain_grid.specs.declared.rule.Rule.TheVariants.{Accumulation, BadCode, BelowGround, FlatStep, Label, Missing, NoSpill, NotLeast, OpenRaised, OutletCode, SharedLabel, Slope, SpillHeight, SpillRank, VoidCell}
pub use Rattle.drain_grid.specs.declared.set_product.SetProduct.{SetProduct}
pub use Rattle.drain_grid.specs.declared.sink_line.SinkLine.{SinkLine}
pub use Rattle.drain_text.specs.Text.{lines_of}
pub use Rattle.std.proofs.Common.{Bool, Err, IsNone, IsSome, IsTrue, List, MatchBool, None, Ok, Option, Ordering, Result, Some, [], ap, append_assoc, arith, below_more, cond, drop, false, get_or, get_or-set_other, get_or-set_same, if◌then◌else◌, inl, inr, int_lt, is_none, is_ok, is_some, le-leb, leb, leb-false, leb-true, length, length-take, ltb, ltb-false, ltb-true, map, nat_eq, nat_lt, negsuc, not, option_and_then, option_map, pos, refl, rules, set, slice_index, slice_index_or, subst, suc, sym, take, tests, true, zero, ℕ, ℤ, ◌%◌, ◌&&◌, ◌*ℤ◌, ◌*◌, ◌++◌, ◌+ℤ◌, ◌+◌, ◌-ℤ◌, ◌-◌, ◌/◌, ◌<ℤ◌, ◌<◌, ◌==◌, ◌^◌, ◌||◌, ◌↔◌, ◌∙◌, ◌∷◌, ◌≡◌, ◌≢◌, ◌≤ℤ◌, ◌≤◌, ◌⊎◌}
pub use Rattle.std.proofs.Math.IntN.{pos-+ℤ-pos}
pub use Rattle.std.proofs.Math.Nat.{le_of_mul-le-mul_right, mul-le-mul_left, mul-le-mul_right, mul-lt-mul_of_pos_right, mul_assoc, mul_comm, two-pow-succ}
pub use Rattle.std.proofs.lemmas.Bool.{and_from, and_left, and_parts, and_right, cases_Bool, cases_eq, cases_lt, cases_order, eq-eqb, eqb-true, false_from_ne_true, false≢true, lt-leb, not_from_false, or_cases, or_left, or_right}
pub use Rattle.std.proofs.lemmas.Bool.Decides.{Decides-eqb, Decides-int_eq, Decides-ltb, nat_tests}
pub use Rattle.std.proofs.lemmas.Grind.{common_steps}
pub use Rattle.std.proofs.lemmas.Int.{by_lt_z, clamps, ints, to_z-of_z}
pub use Rattle.std.proofs.lemmas.Iterator.{YieldsList-from_slice, cases_from_any}
pub use Rattle.std.proofs.lemmas.List.{ext_get_or, get_or-drop, get_or-replicate, get_or-take, get_or_default, length-drop, length-map, take-append-drop, take_all, take_more, take_rest}
pub use Rattle.std.proofs.lemmas.List.Elements.{All-cons, All-map, All-nil, All-same, All-weaker, recursion_from_All}
pub use Rattle.std.proofs.lemmas.List.Folds.{list_any-append, list_any_at, list_any_more, list_any_none}
pub use Rattle.std.proofs.lemmas.List.Sorted.{IsNonDecreasingBy-from_sort, IsPartitionPoint-from_clause, IsPartitionedBy-leb, IsPartitionedBy-ltb, list_any-IsPermutation, searched}
pub use Rattle.std.proofs.lemmas.List.Sums.{fold-append, get_or-le-sum_by, sum_by-append, sum_by-cons}
pub use Rattle.std.proofs.lemmas.Nat.{div-mul-add, mod-mul-add, mul-add-lt, mul-le, mul-lt, pow_pos}
pub use Rattle.std.proofs.lemmas.Option.{option_and_then_some, slice_get_within}
pub use Rattle.std.specs.Int.{int_max, int_min}
pub use Rattle.std.specs.List.{All, AllByRecursion, AllWithin, Any, count_by, find, flat_map, fold, list_all, list_any, range_with_len, slice_get, sum_by}
pub use Rattle.std.specs.List.Sorted.{IsBinarySearchResult, IsNonDecreasing, IsPartitionPoint, IsPermutation}
pub use Rattle.std.specs.Ordering.{int_eq, is_eq, nat_cmp}
pub use borrow.Author.Differences.{down, up}
pub use mir.Val.{SFits, of_z, to_z}
