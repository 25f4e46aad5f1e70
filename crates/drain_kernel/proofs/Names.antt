-- The names that this crate's proofs cite, passed on from one place. Declares nothing.
pub use Rattle.drain_grid.proofs.Decisions.{at_most_there, less_complete, less_sound}
pub use Rattle.drain_grid.proofs.SingleHeights.{numbers_order}
pub use Rattle.drain_grid.proofs.Tallies.{same_some}
pub use Rattle.drain_grid.specs.Direction.{IsCode, Names, NamesSome, code_of, directions, is_straight, names, opposite}
pub use Rattle.drain_grid.specs.HeightKinds.{digits_of, magnitude_of, shift_of, single_height}
pub use Rattle.drain_grid.specs.Judged.{IfJudged, has_acc, has_bas, has_dir, has_rnk}
pub use Rattle.drain_grid.specs.Open.{IsGap}
pub use Rattle.drain_grid.specs.Patch.{HasLower, IsClosed, IsDataNeighbor, IsLower, IsOpen, height, neighbor}
pub use Rattle.drain_grid.specs.PatchRules.{AccumulationHolds, BelowGroundHolds, FlatStepHolds, LabelHolds, NotLeastHolds, OpenRaisedWithoutSpill, OutletCodeHolds, Profile, SlopeHolds, check_rules, inflow}
pub use Rattle.drain_grid.specs.Rule.{IsLeastFault, IsPatchRule}
pub use Rattle.drain_grid.specs.RulesAbout.{part_rules, rules_about, tried}
pub use Rattle.drain_grid.specs.Slope.{IsSteepest, key_to, slope_key}
pub use Rattle.drain_grid.specs.Spacing.{Distances, IsSpacing, distance_square, unit_spacing, weight_of}
pub use Rattle.drain_grid.specs.Unranked.{IsLevelStep, LevelStepHolds, unranked}
pub use Rattle.drain_grid.specs.Values.{NoDataNumbers, Values, number_for, value_of}
pub use Rattle.drain_grid.specs.declared.direction.Direction.{Direction}
pub use Rattle.drain_grid.specs.declared.direction.Direction.TheVariants.{East, North, NorthEast, NorthWest, South, SouthEast, SouthWest, West}
pub use Rattle.drain_grid.specs.declared.height_kind.HeightKind.TheVariants.{Single, Whole}
pub use Rattle.drain_grid.specs.declared.judged.Judged.{Judged}
pub use Rattle.drain_grid.specs.declared.judged.Judged.TheVariants.{All, AllWithRanks, ConDir, ConDirAcc, ConDirBas}
pub use Rattle.drain_grid.specs.declared.judged.Rules.{Rules}
pub use Rattle.drain_grid.specs.declared.patch.Patch.{Patch}
pub use Rattle.drain_grid.specs.declared.rule.Rule.{Rule}
pub use Rattle.drain_grid.specs.declared.rule.Rule.TheVariants.{Accumulation, BadCode, BelowGround, FlatStep, Label, Missing, NoSpill, NotLeast, OpenRaised, OutletCode, SharedLabel, Slope, SpillHeight, SpillRank, VoidCell}
pub use Rattle.drain_grid.specs.declared.set_product.SetProduct.TheVariants.{Acc, Bas, Dir, Rnk}
pub use Rattle.drain_kernel.specs.Around.{LeadsAcross, LeadsStraight, around_in, is_direction_code, is_straight_code, least_across_in, least_straight_in, named_in}
pub use Rattle.drain_kernel.specs.Columns.{Along, AreDataAt, HasCountsAt, HasRankAt, HasWayAt, HaveLabelAt, HaveRanks, IsInlandAt, IsKept, IsShownIn, IsShownRoundIn, KeepsWayAt, PassesAt, RanksPassAt, adds_up_at, cons_round, is_raised_at, keeps_direction_at, keeps_label_at, raised_lanes}
pub use Rattle.drain_kernel.specs.ConAlone.{FallsWith, IsClearedAlone, IsClearedAt, LiesAt, PassesWith, SurfacePassesAt}
pub use Rattle.drain_kernel.specs.Eights.{eight}
pub use Rattle.drain_kernel.specs.Falls.{FallsAt, highest, seen_code, seen_con}
pub use Rattle.drain_kernel.specs.Images.{EachHasImage, at_most, lower, upper}
pub use Rattle.drain_kernel.specs.LaneNumbers.{HaveOneBias, LaneNumbers, ThreeLanes}
pub use Rattle.drain_kernel.specs.Laws.{LanesShowNumbers, RaisedAreCounted, is_above_ground}
pub use Rattle.drain_kernel.specs.Rules.{rules_with, tested, without_sums}
pub use Rattle.drain_kernel.specs.Shown.{HasDataAt, HasRanks, IsShown, IsShownRound, Shows, col_beside, lowered, row_beside}
pub use Rattle.drain_kernel.specs.Slopes.{AreSound, falls_by_fractions, falls_by_heights, falls_down, float_key, fraction_of, goes_by_fractions, is_col_code, is_no_steeper_by_fraction, is_no_steeper_by_key, is_row_code, is_unit, is_whole, keeps_way_down, least_col_in, least_row_in}
pub use Rattle.drain_kernel.specs.Tests.{keeps_label, passed_on}
pub use Rattle.drain_kernel.specs.Units.{AreInBlock, AreInOneBlock, AreInOneUnit, AreInUnit, IsInBlock, IsInUnit, made_offset}
pub use Rattle.drain_kernel.specs.declared.slopes.Slopes.{Slopes}
pub use Rattle.drain_pixels.specs.Lanes.{AreCapped, AreLower, AreUpper, IsElevationLane}
pub use Rattle.drain_slope.proofs.Fractions.{by_fraction_below}
pub use Rattle.std.proofs.Common.{Bool, FitsSigned, IsNone, IsSome, IsTrue, List, None, Option, Some, [], add-one, ap, arith, below_more, cond, false, if◌then◌else◌, inl, inr, int_lt, is_some, length, map, max, min, nat_le, nat_lt, neg_ℤ, negsuc, not, option_map, pos, refl, slice_index, slice_index_or, slice_set, subst, suc, sym, true, unsigned_abs, unwrap_or, zero, ℕ, ℤ, ◌%◌, ◌&&◌, ◌*ℤ◌, ◌*◌, ◌+ℤ◌, ◌+◌, ◌-ℤ◌, ◌-◌, ◌/◌, ◌<ℤ◌, ◌<◌, ◌==◌, ◌^◌, ◌||◌, ◌∙◌, ◌∷◌, ◌≡◌, ◌≢◌, ◌≤ℤ◌, ◌≤◌, ◌⊎◌}
pub use Rattle.std.proofs.Math.Nat.{mul-le-mul_left, mul-le-mul_right, mul-lt-mul_of_pos_right, two-pow-succ}
pub use Rattle.std.proofs.lemmas.Bool.{and_from, and_parts, cases_lt, false_from_ne_true, false≢true, le-leb, leb-true, ne_eqb, not_from_false, or_cases, or_left, or_right}
pub use Rattle.std.proofs.lemmas.Bool.Decides.{Decides-eqb, Decides-ltb, leb_tells}
pub use Rattle.std.proofs.lemmas.Int.{clamps, ints, to_z-of_z}
pub use Rattle.std.proofs.lemmas.List.{get_or-set_other, length-map, length-set}
pub use Rattle.std.proofs.lemmas.Nat.{mul-le, pow-add, pow_pos}
pub use Rattle.std.specs.Cmp.Derive.{both_true}
pub use Rattle.std.specs.Int.{int_max, w64}
