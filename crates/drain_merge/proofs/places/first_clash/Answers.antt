use Rattle.drain_merge.proofs.Names.{arith, Place, BothJudgeOne}
use Rattle.drain_merge.proofs.FirstOfFaults.{pair_found, pairs_more}
use Rattle.drain_merge.proofs.places.first_clash.Goals as goal

pub loop-later-preserved : goal.loop-later-preserved
loop-later-preserved c =
    pairs_more (λ (p q : Place). ¬ BothJudgeOne p q) c.args.places.now c.loop-later.later c.index-places-later.result c.loop-later-test.true c.index-places-later.is
    c.loop-later.invariant c.in_default.ensures

pub returns : goal.returns
returns c = λ i j d less below. c.loop-later.invariant i j d less (omega arith)

pub returns-in-Some : goal.returns-in-Some
returns-in-Some c =
    pair_found BothJudgeOne c.args.places.now c.loop-later.later c.in-Some.earlier c.index-places-later.result c.loop-later-test.true c.index-places-later.is
    c.in-Some.ensures.0 c.in-Some.ensures.1
