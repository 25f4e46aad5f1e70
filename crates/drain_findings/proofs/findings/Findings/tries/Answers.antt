use Rattle.drain_findings.proofs.Names.{◌≡◌, ◌∙◌, inl, inr, sym, subst, Some, IsTrue, has_product, judged}
use Rattle.drain_grid.proofs.Tallies.{none_some, same_some}
use Rattle.drain_findings.proofs.TriedRules.{IsBroken, IsLookedAt, missing, tried_rule, void_cell}
use Rattle.drain_findings.proofs.UntriedRules.{untried_rule}
use Rattle.drain_findings.proofs.findings.Findings.tries.Goals as goal

pub returns-in-VoidCell-clause-tried : goal.returns-in-VoidCell-clause-tried
returns-in-VoidCell-clause-tried g c = λ true other.
    let rules = c.args.self.now.rules in
    elim c.in-VoidCell.is [
      | inl is ↦ subst (IsBroken rules) (sym is) (void_cell rules)
      | inr is ↦ subst (IsBroken rules) (sym is) (missing rules)
    ]

pub returns-in-Some-clause-tried : goal.returns-in-Some-clause-tried
returns-in-Some-clause-tried g c = λ looks other.
    let rules = c.args.self.now.rules in
    let is : judged c.args.rule ≡ Some c.in-Some.product = sym c.judged_product.ensures ∙ c.in-Some.is in
    tried_rule rules c.args.rule (subst (IsLookedAt rules.judged) (sym is) (sym c.looks_at.ensures ∙ looks)) other

pub returns-in-Some-clause-untried : goal.returns-in-Some-clause-untried
returns-in-Some-clause-untried g c = λ not p.
    let rules = c.args.self.now.rules in
    untried_rule rules c.args.rule c.in_default.not-VoidCell c.in_default.not-Missing
    (λ product is.
    let same : c.in-Some.product ≡ product = same_some _ _ (sym c.in-Some.is ∙ (c.judged_product.ensures ∙ is)) in
    subst (λ q. ¬ IsTrue (has_product rules.judged q)) same (λ looks. not (c.looks_at.ensures ∙ looks)))
    p

pub returns-in-None-clause-untried : goal.returns-in-None-clause-untried
returns-in-None-clause-untried g c = λ not p.
    untried_rule c.args.self.now.rules c.args.rule c.in_default.not-VoidCell c.in_default.not-Missing
    (λ product is. absurd (none_some _ (sym c.in-None.is ∙ (c.judged_product.ensures ∙ is)))) p
