use Rattle.drain_grid.specs.declared.rule.Rule.TheVariants.{SharedLabel}
use Rattle.drain_faults.proofs.patch_faults.part_faults.Goals as goal

pub returns-in-None-clause-shared_label : goal.returns-in-None-clause-shared_label
returns-in-None-clause-shared_label c = c.same.ensures SharedLabel
