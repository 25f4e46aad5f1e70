use Rattle.drain_merge.proofs.Names.{sym, ◌∙◌, arith, false≢true}
use Rattle.drain_merge.proofs.SortedSeams.{none_more}
use Rattle.drain_merge.proofs.seams.first_differing.Goals as goal

pub loop-place-preserved : goal.loop-place-preserved
loop-place-preserved c =
    none_more c.args.seams.now c.loop-place.place c.index-seams-place.result c.index-seams-place-in-loop-place.result (omega arith) c.loop-place-test.true
    c.index-seams-place.is c.index-seams-place-in-loop-place.is c.loop-place.invariant (λ differ. false≢true (sym c.if-differ.false ∙ c.differ.ensures.1 differ))
