use Rattle.drain_merge.proofs.Names.{sym, ◌∙◌, arith, false≢true, BothJudgeOne}
use Rattle.drain_merge.proofs.Elements.{within_more}
use Rattle.drain_merge.proofs.places.first_clashing.Goals as goal

pub loop-i-preserved : goal.loop-i-preserved
loop-i-preserved c =
    within_more (λ p. ¬ BothJudgeOne p c.args.place.now) c.args.places.now c.loop-i.i c.index-places-i.result c.loop-i-test.true c.index-places-i.is c.loop-i.invariant
    (λ both. absurd (false≢true (sym c.if-both_judge_one.false ∙ c.both_judge_one.ensures.1 both)))

pub returns : goal.returns
returns c = λ k d below. c.loop-i.invariant k d (omega arith) (omega arith)
