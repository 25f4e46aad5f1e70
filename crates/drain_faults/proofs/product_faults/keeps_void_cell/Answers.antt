use Rattle.drain_faults.proofs.Names.{sym, ◌∙◌, refl, has_product}
use Rattle.drain_faults.proofs.ProductParts.{if_judged, unjudged}
use Rattle.drain_faults.proofs.product_faults.keeps_void_cell.Goals as goal

pub returns-then-has : goal.returns-then-has
returns-then-has c =
    let same = if_judged (has_product c.args.rules.now.judged c.args.product) _ (sym c.has.ensures ∙ c.if-has.true) in
    ((λ is. same.0 (c.is_blank_if_void.ensures.0 is)), λ holds. c.is_blank_if_void.ensures.1 (same.1 holds))

pub returns-else-has : goal.returns-else-has
returns-else-has c = ((λ is. unjudged (has_product c.args.rules.now.judged c.args.product) _ (sym c.has.ensures ∙ c.if-has.false)), λ holds. refl)
