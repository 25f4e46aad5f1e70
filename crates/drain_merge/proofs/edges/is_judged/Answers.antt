use Rattle.drain_merge.proofs.Names.{sym, subst, ◌∙◌, arith, false≢true, Place, IsJudgedAt}
use Rattle.drain_merge.proofs.Elements.{within_more}
use Rattle.drain_merge.proofs.edges.is_judged.Goals as goal

pub loop-place-preserved : goal.loop-place-preserved
loop-place-preserved c =
    within_more (λ p. ¬ IsJudgedAt p c.args.cell) c.args.places.now c.loop-place.place-index c.place-item.result c.loop-place-test.true c.place-item.is
    c.loop-place.invariant (λ at. false≢true (sym c.if-judges.false ∙ c.judges.ensures.1 at))

pub returns : goal.returns
returns c = (
  (λ no. absurd (false≢true no)),
  (λ some. absurd
      (c.loop-place.invariant some.1.0 some.0 (omega arith) (omega (arith, some.1.1))
      (subst (λ (p : Place). IsJudgedAt p c.args.cell) (sym some.1.2) some.2))),
)
