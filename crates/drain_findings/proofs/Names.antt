-- The names that this crate's proofs cite, passed on from one place. Declares nothing.
pub use Rattle.drain_findings.specs.LookedAt.{judged}
pub use Rattle.drain_grid.specs.Judged.{IfJudged, has_acc, has_bas, has_dir, has_product}
pub use Rattle.drain_grid.specs.PatchRules.{AccumulationHolds, BadCodeWithoutSpill, BelowGroundHolds, FlatStepHolds, LabelHolds, NotLeastHolds, OpenRaisedWithoutSpill, OutletCodeHolds, SlopeHolds, check_rules}
pub use Rattle.drain_grid.specs.RulesAbout.{part_rules, rules_about, tried}
pub use Rattle.drain_grid.specs.Unranked.{LevelStepHolds, unranked}
pub use Rattle.drain_grid.specs.Values.{NoDataNumbers, Values}
pub use Rattle.drain_grid.specs.declared.judged.Judged.{Judged}
pub use Rattle.drain_grid.specs.declared.judged.Rules.{Rules}
pub use Rattle.drain_grid.specs.declared.patch.Patch.{Patch}
pub use Rattle.drain_grid.specs.declared.rule.Rule.{Rule}
pub use Rattle.drain_grid.specs.declared.rule.Rule.TheVariants.{Accumulation, BadCode, BelowGround, FlatStep, Label, Missing, NoSpill, NotLeast, OpenRaised, OutletCode, SharedLabel, Slope, SpillHeight, SpillRank, VoidCell}
pub use Rattle.drain_grid.specs.declared.set_product.SetProduct.{SetProduct}
pub use Rattle.drain_grid.specs.declared.set_product.SetProduct.TheVariants.{Acc, Bas, Con, Dir}
pub use Rattle.std.proofs.Common.{Bool, IsTrue, None, Option, Some, [], arith, false, inl, inr, pos, refl, subst, sym, true, ℕ, ℤ, ◌+ℤ◌, ◌∙◌, ◌∷◌, ◌≡◌, ◌≢◌}
