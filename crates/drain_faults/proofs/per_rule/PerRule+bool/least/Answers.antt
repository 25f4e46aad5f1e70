use Rattle.drain_faults.proofs.Names.{◌≡◌, ◌+◌, ◌<◌, false, true, get_or, below_more, sym, ◌∙◌, arith, false≢true, VoidCell, rule_number, of_rule}
use Rattle.drain_grid.proofs.AllRules.{rules}
use Rattle.drain_faults.proofs.RulePlaces.{of_each, of_lesser, place_at}
use Rattle.drain_faults.proofs.per_rule.PerRule+bool.least.Goals as goal

pub returns-then-of : goal.returns-then-of
returns-then-of c =
    let i = c.loop-rule.rule-index in
    let within : i < 15 = omega arith in
    let number : rule_number (get_or rules i VoidCell) ≡ i + 1 = place_at i within in
    let is_set : of_rule c.args.self.now (get_or rules i VoidCell) ≡ true = sym c.of.ensures ∙ c.if-of.true in (
      (omega (arith, number), omega (arith, number)),
      λ unset. false≢true (sym unset ∙ is_set),
      λ q own below. of_lesser (λ r. of_rule c.args.self.now r ≡ false) i c.loop-rule.invariant q (omega (arith, number, below, own.0)),
    )

pub loop-rule-preserved : goal.loop-rule-preserved
loop-rule-preserved c =
    below_more (λ k. of_rule c.args.self.now (get_or rules k VoidCell) ≡ false) c.loop-rule.rule-index c.loop-rule.invariant (sym c.of.ensures ∙ c.if-of.false)

pub returns : goal.returns
returns c = λ r own.
    of_each (λ r. of_rule c.args.self.now r ≡ false) (λ k below. c.loop-rule.invariant k (omega (arith, below, c.loop-rule-test.false))) r
