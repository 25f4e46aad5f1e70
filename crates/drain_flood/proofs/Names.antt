-- The names that this crate's proofs cite, passed on from one place. Declares nothing.
pub use Rattle.drain_flood.specs.Flats.{AreFirstRanks, AreLaid, AreWaysOnFlats, HasWay, IsBlankWay, IsDown, IsFlat, IsLookedFor, IsOnFlat, IsSettled, IsSettledFrom, IsToLook, Laying, Settles, ShowsWays, first_rank, rank_at, way_at, wayless}
pub use Rattle.drain_flood.specs.Floods.{Flooding, HasDescent, HasFirstMarks, HasFloor, HasMarks, IsBetween, IsFilledFrom, IsFirstMark, IsFloodOf, IsFlooded, IsHeld, IsReachedCell, IsReachedFrom, IsReachedPair, IsReachedPlace, IsSurfaceOf, IsUnreached, Reaches, con_at, listed_at, mark_at, unreached}
pub use Rattle.drain_flood.specs.Laid.{AreDataMarks, AreFirstMarks, AreGrounds, AreRowLanes, IsGround, IsLane, IsMarkOf, IsOpenPlace, fall_at, first_across, first_along, is_steeper, least_across, least_along, least_around, level_of_lane}
pub use Rattle.drain_flood.specs.Laws.{AllAreReached, AllAreSettled, FlatsArePresent, FlatsKeepRules, FloodIsDone, FloodIsFilled, FloodShowsVoids, IsAtEnd, KeptByReaching, KeptBySettling, SurfaceKeepsRules}
pub use Rattle.drain_flood.specs.Looks.{AreInside, IsAround, IsClosed, IsFreshAt, IsInnerAt, IsInnerPlace, IsLook, IsLookedAround, IsLookedBefore, IsPlaceBeside, LooksAround, PassesLook}
pub use Rattle.drain_flood.specs.Stacks.{AreStacks, stack_at}
pub use Rattle.drain_flood.specs.Turns.{Holds, IsLeftWaiting, IsLessWork, IsNextTurn, IsOut, IsPopped, IsPut, Rises, Waiting, with_lists}
pub use Rattle.drain_flood.specs.Walks.{IsLessWalk, IsLowEdgeThere, IsNextPlace, IsPassed, IsWalk, IsWalked, NoneAt, with_ahead}
pub use Rattle.drain_flood.specs.Ways.{AreFirstCodes, AreLinked, IsChain, IsCodeAt, IsLinked, IsLowerNeighbor, IsSpaced, IsWayDown, chain, key_down, last_or, level_of, marked_grid, marked_products, pairs_at, pairs_from, way_code}
pub use Rattle.drain_flood.specs.declared.falls.TheConstants.{GAP}
pub use Rattle.drain_flood.specs.declared.layers.TheConstants.{NO_HEIGHT, NO_RANK, OPEN, REACHED, UNREACHED, VOID}
pub use Rattle.drain_flood.specs.declared.level_queue.TheConstants.{ABSENT, END, LEVELS, MAX_CELLS}
pub use Rattle.drain_grid.proofs.Alike.{before_row, same_index}
pub use Rattle.drain_grid.proofs.Decisions.{cases}
pub use Rattle.drain_grid.proofs.Inflows.{opposite_opposite, step_back}
pub use Rattle.drain_grid.proofs.Lowered.{AreLevels, HasData-path, least_at_open, least_beside, same_or_not}
pub use Rattle.drain_grid.proofs.Neighbors.{AreNeighbors-lies, direction_between, of_each, place, reach, step_gives, step_lies}
pub use Rattle.drain_grid.proofs.PatchDecisions.{open_cell}
pub use Rattle.drain_grid.proofs.OpenCells.{IsOpenAmong-gap, gap_from_void}
pub use Rattle.drain_grid.proofs.Patches.{IsOpen-patch_at, cell_shown, shown_cell}
pub use Rattle.drain_grid.proofs.Runs.{cell_at, index_of-below}
pub use Rattle.drain_grid.proofs.Tallies.{none_some, same_some, some_or_none, void_data}
pub use Rattle.drain_grid.proofs.ThreeRows.{at_ends, col_beside, number_beside, number_in_row, place_in_own_row, place_in_row, row_beside, three_rows}
pub use Rattle.drain_grid.specs.Direction.{IsCode, code_of, cols_right, directions, is_straight, opposite, order_of, rows_down}
pub use Rattle.drain_grid.specs.Extent.{Extent, IsCellOf, index_of, step}
pub use Rattle.drain_grid.specs.Grid.{Grid, HasData, Heights, IsInside, IsOpenCell, IsSample, Products, height_at, height_from, patch_at, values_at}
pub use Rattle.drain_grid.specs.GridRules.{HoldsAt}
pub use Rattle.drain_grid.specs.HeightKinds.{height_of}
pub use Rattle.drain_grid.specs.Open.{IsGap}
pub use Rattle.drain_grid.specs.Patch.{HasLower, IsLower}
pub use Rattle.drain_grid.specs.PatchRules.{BadCodeWithoutSpill, BelowGroundHolds, FlatStepHolds, NotLeastHolds, OpenRaisedWithoutSpill, OutletCodeHolds, SlopeHolds, flow_rules, surface_rules}
pub use Rattle.drain_grid.specs.Path.{CoversGround, Drains, IsFilled, IsLeastSurface, IsPath, NeverRises, Surface}
pub use Rattle.drain_grid.specs.Rule.{IsFillRule, IsWayRule}
pub use Rattle.drain_grid.specs.SinkTexts.{is_listed}
pub use Rattle.drain_grid.specs.Slope.{IsFirstSteepest, IsSteepest, key_to, slope_key}
pub use Rattle.drain_grid.specs.Spacing.{Distances, spacing_of, unit_spacing, weight_of}
pub use Rattle.drain_grid.specs.Values.{Values}
pub use Rattle.drain_grid.specs.WholeGrid.{elevation_at, sample_at, sample_row, spaced_grid}
pub use Rattle.drain_grid.specs.declared.cell.Cell.{Cell}
pub use Rattle.drain_grid.specs.declared.direction.Direction.{Direction}
pub use Rattle.drain_grid.specs.declared.direction.Direction.TheVariants.{East, North, NorthEast, NorthWest, South, SouthEast, SouthWest, West}
pub use Rattle.drain_grid.specs.declared.rule.Rule.{Rule}
pub use Rattle.drain_grid.specs.declared.rule.Rule.TheVariants.{Accumulation, BelowGround, FlatStep, Label, NotLeast, OpenRaised, OutletCode, SharedLabel, Slope}
pub use Rattle.drain_grid.specs.declared.sink_line.SinkLine.{SinkLine}
pub use Rattle.std.proofs.Common.{Bool, Contains, Err, Global, IfOk, IfSome, IsNone, IsSome, IsTrue, List, MatchOption, None, Ok, OnErr, OnOk, Option, Result, Some, Vec, [], ap, append-nil, append_assoc, arith, cond, count_by, drop, false, get_or, get_or-set_other, get_or-set_same, if◌then◌else◌, inl, inr, length, map, min, nat_lt, not, option_map, pos, refl, rules, set, slice_index, slice_index_or, subst, suc, sym, true, unwrap_or, zero, ℕ, ℤ, ◌%◌, ◌*◌, ◌++◌, ◌+ℤ◌, ◌+◌, ◌-ℤ◌, ◌-◌, ◌/◌, ◌<ℤ◌, ◌<◌, ◌==◌, ◌||◌, ◌↔◌, ◌∙◌, ◌∷◌, ◌≡◌, ◌≢◌, ◌≤ℤ◌, ◌≤◌, ◌⊎◌}
pub use Rattle.std.proofs.lemmas.Bool.{cases_Bool, cases_eq, cases_lt, cases_order, eqb-false, eqb-true, false≢true, le-ltb, lt-ltb, ltb-true, ne_eqb, not-true, not_from_false, or_left, or_right}
pub use Rattle.std.proofs.lemmas.Bool.Decides.{Decides-int_eq, Decides-ltb, nat_tests}
pub use Rattle.std.proofs.lemmas.Int.{by_lt_z, clamps, ints, to_z-of_z}
pub use Rattle.std.proofs.lemmas.List.{drop-append-le, get_or-map, get_or_append_left, get_or_default, get_or_past, get_or_push, get_or_read, length-append, length-map, length_push, map-set, map_push, take_at}
pub use Rattle.std.proofs.lemmas.List.Elements.{All-append, All-cons, All-contains, All-get_or, All-head, All-map, All-nil, All-push, All-tail, All-weaker, Contains-append_cases, Contains-append_left, Contains-append_right, Contains-get_or, Contains-push, Contains-push_cases}
pub use Rattle.std.proofs.lemmas.List.Sorted.{All-permutation, Contains-permutation, IsPermutation-map, IsPermutation-middle, IsPermutation-sym, first_le_from_greatest, length_permutation}
pub use Rattle.std.proofs.lemmas.List.Sums.{count_by-le-length, sum_by-le, sum_by-set}
pub use Rattle.std.proofs.lemmas.Result.{IfOk-weaker}
pub use Rattle.std.proofs.lemmas.Nat.{div-add-mod', div_below, mul-le, mul-lt}
pub use Rattle.std.specs.Int.{int_max}
pub use Rattle.std.specs.List.{All, AllByRecursion, sum_by}
pub use Rattle.std.specs.List.Sorted.{IsPermutation}
pub use Rattle.std.specs.Ordering.{int_eq}
pub use mir.Syntax.{w64}
pub use mir.Val.{SFits, of_z, to_z}
