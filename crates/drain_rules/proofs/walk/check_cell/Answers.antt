use Rattle.drain_rules.proofs.Names.{IsTrue, has_bas, tried, IfCompared}
use Rattle.drain_rules.proofs.Faults.{holds_tried, untried}
use Rattle.drain_rules.proofs.walk.check_cell.Goals as goal
use Rattle.drain_rules.proofs.walk.check_cell.Goals.{then-is_new, else-is_new}

-- the label is new, or labels aren't judged
pub returns-then-not-has_bas-clause-passed : goal.returns-then-not-has_bas-clause-passed
returns-then-not-has_bas-clause-passed g c =
    let rules = c.args.rules.now in
    let p = g.R.PatchRow.shown c.args.row.now c.args.cell.col in
    let shared : IsTrue (has_bas rules.judged) → IfCompared g.L.Labels.compares (g.L.Labels.is_new c.args.labels.now p.here) =
    elim c.if-is_new.branch [
      | then-is_new w ↦ λ own. rw c.values-here.ensures at (c.in-Ok.ensures.is_new.0 w.if-is_new.true)
      | else-is_new w ↦ λ own. absurd (untried c.if-is_new.value w.has_bas.result (has_bas rules.judged) w.value-is w.has_bas.ensures c.if-not-has_bas.true own)
    ] in
    holds_tried g.L.Labels.compares rules.judged (tried rules) (λ v. IfCompared g.L.Labels.compares (g.L.Labels.is_new c.args.labels.now v)) p c.in_default.ensures.least shared

-- the label is new, so that it can't be shared
pub returns-in-Err-clause-stopped : goal.returns-in-Err-clause-stopped
returns-in-Err-clause-stopped g c =
    let rules = c.args.rules.now in
    let p = g.R.PatchRow.shown c.args.row.now c.args.cell.col in
    let shared : IfCompared g.L.Labels.compares (g.L.Labels.is_new c.args.labels.now p.here) = rw c.values-here.ensures at c.in-Err.ensures.err.1 in
    record {
      outlet = rw c.values-here.ensures at c.in-Err.ensures.err.0;
      is_new = shared;
      holds = holds_tried g.L.Labels.compares rules.judged (tried rules) (λ v. IfCompared g.L.Labels.compares (g.L.Labels.is_new c.args.labels.now v)) p c.in_default.ensures.least (λ own. shared);
    }
