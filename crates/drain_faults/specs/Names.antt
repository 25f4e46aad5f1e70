-- The names of other crates that this crate's definitions and contracts use, passed on from one place. Declares nothing.
pub use Rattle.drain_basin.specs.Admitted.{IsAdmitted, LabelSet}
pub use Rattle.drain_grid.specs.Grid.{Grid, HasData, Products, patch_at}
pub use Rattle.drain_grid.specs.GridRules.{HoldsAt, SharedLabelHolds}
pub use Rattle.drain_grid.specs.Judged.{IfJudged, has_bas, has_product, has_rnk}
pub use Rattle.drain_grid.specs.PerProduct.{of_product}
pub use Rattle.drain_grid.specs.Rule.{IsAnyRule, IsLeastFault, IsPatchRule, rule_number}
pub use Rattle.drain_grid.specs.RulesAbout.{IsTried, part_rules, tried}
pub use Rattle.drain_grid.specs.SetProduct.{product_of}
pub use Rattle.drain_grid.specs.Values.{number_for, value_of}
pub use Rattle.drain_grid.specs.declared.cell.Cell.{Cell}
pub use Rattle.drain_grid.specs.declared.cell.TheConstants.{MAX_LENGTH}
pub use Rattle.drain_grid.specs.declared.judged.Rules.{Rules}
pub use Rattle.drain_grid.specs.declared.patch.Patch.{Patch}
pub use Rattle.drain_grid.specs.declared.rule.Rule.{Rule}
pub use Rattle.drain_grid.specs.declared.rule.Rule.TheVariants.{Accumulation, BadCode, BelowGround, FlatStep, Label, Missing, NoSpill, NotLeast, OpenRaised, OutletCode, SharedLabel, Slope, SpillHeight, SpillRank, VoidCell}
pub use Rattle.drain_grid.specs.declared.set_product.SetProduct.{SetProduct}
pub use Rattle.drain_rules.specs.Labels.{AreLabelsBefore, IsLabelOf, IsOutletByCode, labelled_profile}
pub use Rattle.drain_rules.specs.Rows.{AreRowPatches, CountsAlong, IsAtMost, place}
pub use Rattle.drain_rules.specs.Walks.{CountsAbove, cells_above}
pub use Rattle.std.specs.Prelude.{Bool, IfOk, IfSome, IsNone, IsSome, IsTrue, List, None, OnErr, OnOk, Option, Some, [], false, is_some, pos, true, unwrap_or, ℕ, ℤ}
