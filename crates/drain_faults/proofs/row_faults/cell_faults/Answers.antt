use Rattle.drain_faults.proofs.Names.{refl, sym, ◌∙◌, IsAdmitted, IsOutletByCode, of_rule, HoldsIfTried}
use Rattle.drain_faults.proofs.ByRule.{tells_every}
use Rattle.drain_faults.proofs.PatchFlags.{tells_not}
use Rattle.drain_faults.proofs.TriedRules.{told_patch, told_shared, told_untried}
use Rattle.drain_faults.proofs.row_faults.cell_faults.Goals as goal

pub returns-then-not-has_bas-clause-each : goal.returns-then-not-has_bas-clause-each
returns-then-not-has_bas-clause-each c =
    let rules = c.args.rules.now in
    let p = c.args.patch.now in
    let faults = c.patch_faults-faults in
    tells_every (HoldsIfTried rules c.args.labels.now p) faults.result faults.result
    (λ r own. told_patch rules c.args.labels.now p (of_rule faults.result r) r own (faults.ensures.each r own)) (λ r own. refl)
    (rw faults.ensures.shared_label (told_untried rules c.args.labels.now p (sym c.has_bas.ensures ∙ c.if-not-has_bas.true)))

pub returns-in-Ok-clause-each : goal.returns-in-Ok-clause-each
returns-in-Ok-clause-each c =
    let rules = c.args.rules.now in
    let labels = c.args.labels.now in
    let p = c.args.patch.now in
    let faults = c.patch_faults-faults in
    tells_every (HoldsIfTried rules labels p) faults.result c.with_shared_label.result
    (λ r own. told_patch rules labels p (of_rule faults.result r) r own (faults.ensures.each r own))
    c.with_shared_label.ensures.others
    (rw c.with_shared_label.ensures.own
    (told_shared rules labels p _ (sym c.has_bas.ensures ∙ c.if-not-has_bas.false)
    (tells_not c.in-Ok.is_new (IsOutletByCode p.here → ¬ IsAdmitted labels p.here.bas) c.in-Ok.ensures.is_new)))
