use Rattle.drain_faults.proofs.Names.{◌≡◌, false, arith, VoidCell, Missing, IsAnyRule, IsLeastFault-same, of_rule, HoldsIfTried}
use Rattle.drain_faults.proofs.PatchFlags.{noted_by, tells_iff}
use Rattle.drain_faults.proofs.TriedRules.{told_here}
use Rattle.drain_faults.proofs.row_faults.FaultTally.note.Goals as goal

pub returns-in-Ok-clause-least : goal.returns-in-Ok-clause-least
returns-in-Ok-clause-least c =
    let holds = HoldsIfTried c.args.rules.now c.args.self.now.labels c.args.patch.now in
    IsLeastFault-same IsAnyRule (λ r. of_rule c.in-Ok.fails r ≡ false) holds c.least-rule.result
    (λ r own. tells_iff (of_rule c.in-Ok.fails r) (holds r) (c.in-Ok.ensures.each r)) c.least-rule.ensures

pub returns-in-Ok-clause-noted : goal.returns-in-Ok-clause-noted
returns-in-Ok-clause-noted c = record {
  each = λ r.
      noted_by (of_rule c.in-Ok.fails r) (HoldsIfTried c.args.rules.now c.args.self.now.labels c.args.patch.now r) c.args.cell
      (of_rule c.args.self.now.by_rule r) (of_rule c.note_rules.new.faults r) (c.in-Ok.ensures.each r) (c.note_rules.ensures r);
  first_is = record { least = c.least-rule.result; least_is = returns-in-Ok-clause-least c; first_is = c.note_patch.ensures };
  by_product = c.note_products.ensures;
  admitted = c.in-Ok.ensures.labels;
}

pub note_products-requires-clause-void_cell : goal.note_products-requires-clause-void_cell
note_products-requires-clause-void_cell c =
    told_here c.args.rules.now c.args.self.now.labels c.args.patch.now c.in-Ok.fails.void_cell VoidCell (omega arith, omega arith) (c.in-Ok.ensures.each VoidCell)

pub note_products-requires-clause-missing : goal.note_products-requires-clause-missing
note_products-requires-clause-missing c =
    told_here c.args.rules.now c.args.self.now.labels c.args.patch.now c.in-Ok.fails.missing Missing (omega arith, omega arith) (c.in-Ok.ensures.each Missing)
