use Rattle.drain_slope.proofs.Names.{◌∙◌, sym, false≢true}
use Rattle.drain_slope.proofs.Keys.{first_steepest, none_lower, no_drop}
use Rattle.drain_slope.proofs.steepest.Goals.{else-has_data-via-then-has_data+else-leads_down, else-has_data-via-else-has_data}
use Rattle.drain_slope.proofs.steepest.Goals as goal

pub returns-then-leads_down : goal.returns-then-leads_down
returns-then-leads_down c =
    first_steepest c.args.patch.now c.first_greatest-first.result c.distances_are_valid.ensures (c.has_data.ensures.0 c.if-has_data.true)
    (c.leads_down.ensures.0 c.if-leads_down.true) c.first_greatest-first.ensures

pub returns-else-has_data : goal.returns-else-has_data
returns-else-has_data c =
    elim c.else-has_data.branch [
      | else-has_data-via-then-has_data+else-leads_down w ↦
          none_lower c.args.patch.now c.first_greatest-first.result c.distances_are_valid.ensures
          (no_drop c.args.patch.now c.first_greatest-first.result (λ drops. false≢true (sym w.if-leads_down.false ∙ w.leads_down.ensures.1 drops))) c.first_greatest-first.ensures
      | else-has_data-via-else-has_data w ↦ (λ low. absurd (false≢true (sym w.if-has_data.false ∙ c.has_data.ensures.1 low.0)))
    ]
