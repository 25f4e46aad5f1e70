-- The names that this crate's proofs cite, passed on from one place. Declares nothing.
pub use Rattle.drain_grid.proofs.Alike.{before_row, earlier_index, in_grid, same_index}
pub use Rattle.drain_grid.proofs.CellSums.{same_cell_self, same_cell_true, same_place_same, sum_by_add, sum_by_cells_le, sum_by_cells_one, sum_by_cells_same, sum_by_directions_one, sum_by_same, sum_by_zero}
pub use Rattle.drain_grid.proofs.Codes.{code-not_zero, find_passes, named_direction-code, names_fact, next-named}
pub use Rattle.drain_grid.proofs.HandedOn.{handed_at_least, handed_none, handed_on, handed_one, handed_same, handed_sum}
pub use Rattle.drain_grid.proofs.Inflows.{FlowsFrom, HasData-flow, flow-next, flow_unique, next-flow, opposite_opposite, share_cases, share_flow}
pub use Rattle.drain_grid.proofs.Lowered.{same_or_not}
pub use Rattle.drain_grid.proofs.Neighbors.{step_gives, step_lies}
pub use Rattle.drain_grid.proofs.Runs.{HasData-next, cell_at, cell_at-index_of, cell_count, ended-run, ended-run_end, ended-run_steps, ended_chains, index_of-below, run_end-zero, steps-none}
pub use Rattle.drain_grid.proofs.Tallies.{lent_back, none_some, same_some, some_or_none, tally, tally-le, tally-less, void_data}
pub use Rattle.drain_grid.proofs.Upstream.{upstream_count-parts}
pub use Rattle.drain_grid.proofs.Walks.{EndsAfter-before, EndsAfter-next, EndsAfter-zero, IsWalk, IsWalk-endless, IsWalk-ends, IsWalk-more, IsWalk-too_long, Leads, endless-stuck, run_steps-le}
pub use Rattle.drain_grid.specs.Direction.{IsCode, Names, code_of, cols_right, directions, named_direction, names, opposite, order_of, rows_down}
pub use Rattle.drain_grid.specs.Extent.{Extent, IsCellOf, cells, index_of, same_cell, step}
pub use Rattle.drain_grid.specs.Grid.{Grid, HasData, IsInside, Pixels, Products, no_sink}
pub use Rattle.drain_grid.specs.Run.{RunEnds, ShareBasin, continued, drains_through, last_from, next, only_data, run, run_end, steps_from, upstream_count}
pub use Rattle.drain_grid.specs.Unranked.{EndsAfter, IsFirstEndless, run_steps}
pub use Rattle.drain_grid.specs.WholeGrid.{elevation_at, number_at}
pub use Rattle.drain_grid.specs.declared.cell.Cell.{Cell}
pub use Rattle.drain_grid.specs.declared.cell.TheConstants.{MAX_LENGTH}
pub use Rattle.drain_grid.specs.declared.direction.Direction.{Direction}
pub use Rattle.drain_grid.specs.declared.direction.Direction.TheVariants.{East, North, NorthEast, NorthWest, South, SouthEast, SouthWest, West}
pub use Rattle.drain_paths.specs.Basins.{AreBasinLabels, AreEndLabels, basin_label, end_number, is_end}
pub use Rattle.drain_paths.specs.CellNumbers.{AreNumbers, AreNumbersSoFar, IsNumberBehind, IsNumbered, IsPutAt, Numbering, cell_number, one_of, ones_of}
pub use Rattle.drain_paths.specs.EndlessPaths.{IsEndlessPath, IsFarthest, IsLostBy, IsOnNoRing, IsReached, IsRing, IsRingFrom, LeadsOnOrEnds, cell_after, told_with}
pub use Rattle.drain_paths.specs.Flows.{AllFlowsEnd, AreFirstFlows, AreFlowsOf, AreRowOf, IsByteTable, OfFlows, byte_flow, bytes_flows, cell_flow, code_flow, direction_of, flow_at, flow_to, flows_of}
pub use Rattle.drain_paths.specs.Inflows.{AreInflows, AreRowCodes, AreUpstreamCounts, IsInflowOf, IsPassedOn, IsPassing, StaysAway, has_passed, inflow_at, one_if, still}
pub use Rattle.drain_paths.specs.Places.{AreOffsets, IsOffset, lane_of}
pub use Rattle.drain_paths.specs.Walks.{AreKnownFlows, AreRunSteps, IsKnownFlow, IsKnownWay, first_step, first_steps_of, stepped}
pub use Rattle.drain_paths.specs.declared.accumulation.TheConstants.{DONE}
pub use Rattle.drain_paths.specs.declared.endless_path.TheConstants.{RING_TOLD}
pub use Rattle.drain_paths.specs.declared.flow.Flow.{Flow}
pub use Rattle.drain_paths.specs.declared.flow.Flow.TheVariants.{Ends, ToEast, ToNorth, ToNorthEast, ToNorthWest, ToSouth, ToSouthEast, ToSouthWest, ToWest}
pub use Rattle.drain_paths.specs.declared.flow.TheConstants.{NO_CODE}
pub use Rattle.drain_paths.specs.declared.walk.TheConstants.{UNKNOWN}
pub use Rattle.drain_pixels.specs.Ground.{elevations, height_with}
pub use Rattle.std.proofs.Common.{Bool, IsNone, IsSome, List, None, Option, Some, [], ap, arith, below_more, cond, drop, false, get_or, get_or-set_other, get_or-set_same, if◌then◌else◌, inl, inr, is_some, length, map, nat_eq, nat_lt, of_z, option_and_then, pos, refl, rules, set, slice_get, slice_index, slice_index_or, subst, suc, sym, take, to_z, true, w64, zero, ℕ, ℤ, ◌%◌, ◌&&◌, ◌*◌, ◌++◌, ◌+◌, ◌-◌, ◌<◌, ◌==◌, ◌∙◌, ◌∷◌, ◌≡◌, ◌≢◌, ◌≤◌, ◌⊎◌}
pub use Rattle.std.proofs.Math.Nat.{mul-le-mul_right}
pub use Rattle.std.proofs.lemmas.Bool.{and_from, and_parts, cases_Bool, cases_eq, cases_lt, cases_order, eq-eqb, eqb-true, false_from_ne_true, false≢true, ne_eqb}
pub use Rattle.std.proofs.lemmas.Bool.Decides.{nat_tests}
pub use Rattle.std.proofs.lemmas.List.{ext_get_or, get_or-append-add, get_or-map, get_or_append_left, length-map, map-set}
pub use Rattle.std.proofs.lemmas.List.Sums.{sum_by-cons}
pub use Rattle.std.specs.List.{sum_by}
pub use Rattle.std.specs.Option.{option_map_or}
pub use Rattle.std.specs.Ordering.{int_eq}
pub use Rattle.std.specs.Prelude.{Err, IfOk, MatchOption, Ok, Result, min, ◌↔◌}
