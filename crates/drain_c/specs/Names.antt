-- The names of other crates that this crate's definitions and contracts use, passed on from one place. Declares nothing.
pub use Rattle.drain_answer.specs.Lines.{refusal_line}
pub use Rattle.drain_answer.specs.OutcomeLines.{outcome_line, outcome_report_line}
pub use Rattle.drain_answer.specs.Outcomes.{IsAcceptedOutcome}
pub use Rattle.drain_answer.specs.declared.outcome.Outcome.{Outcome}
pub use Rattle.drain_answer.specs.declared.refusal.Refusal.{Refusal}
pub use Rattle.drain_answer.specs.declared.refusal.Refusal.TheVariants.{BadHeader, Misplaced, OutOfMemory, RasterShort, ReadFailed, WrongShape}
pub use Rattle.drain_faults.specs.declared.patch_faults.RuleFaults.{RuleFaults}
pub use Rattle.drain_faults.specs.declared.per_rule.PerRule.{PerRule}
pub use Rattle.drain_grid.specs.Extent.{Extent, cells}
pub use Rattle.drain_grid.specs.Judged.{has_acc, has_bas, has_dir, has_rnk}
pub use Rattle.drain_grid.specs.Rule.{rule_number}
pub use Rattle.drain_grid.specs.declared.judged.Judged.{Judged}
pub use Rattle.drain_grid.specs.declared.rule.Rule.{Rule}
pub use Rattle.drain_grid.specs.declared.set_product.SetProduct.{SetProduct}
pub use Rattle.drain_maker.specs.Derived.{AreCounts, AreDerived, AreDerivedIn, IsCounts, IsDeriveRefusalIn}
pub use Rattle.drain_sets.specs.GivenSpacings.{GivenSpacing, by_row, same, spacing_from}
pub use Rattle.drain_sets.specs.Missing.{IsMissingText}
pub use Rattle.drain_verdict.specs.DemGround.{DemTexts, ElevationIsItsPixels, dem_ground}
pub use Rattle.drain_verdict.specs.GroundSets.{GroundSet, IsReadable, rules_in, set_grid, set_products}
pub use Rattle.drain_verdict.specs.Headline.{ElevationIsTheirs, ProductsAreRight, TilesAreOne}
pub use Rattle.drain_verdict.specs.Inputs.{AreNames, Inputs, Products, as_five}
pub use Rattle.drain_verdict.specs.Outcomes.{AreRightIn, IsOutcomeIn}
pub use Rattle.drain_verdict.specs.TileGround.{set_of}
pub use Rattle.std.specs.List.{AllZip, list_all, range_with_len}
pub use Rattle.std.specs.Prelude.{Bool, Err, IfErr, IfOk, IfSome, IsFalse, IsNone, IsSome, IsTrue, List, None, Ok, Option, Result, Some, [], codes, decimal, false, length, map, nat_le, nat_lt, not, option_map, pos, replicate, slice_get, slice_index_or, take, ℕ, ℤ}
