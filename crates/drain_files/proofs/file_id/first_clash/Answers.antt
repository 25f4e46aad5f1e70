use Rattle.drain_files.proofs.Names.{arith, false, None, false≢true, slice_get_within}
use Rattle.drain_files.proofs.PathLemmas.{no_clash_more}
use Rattle.drain_files.proofs.file_id.first_clash.Goals as goal

pub loop-k-preserved : goal.loop-k-preserved
loop-k-preserved c = no_clash_more c.args.outputs.now c.args.inputs.now c.loop-k.k (record { id = None; is_straight = false })
    (λ input. false≢true (c.if-is_input.ensures.1 input)) (λ meets. false≢true (c.if-meets_some.ensures.1 meets)) c.loop-k.invariant

pub returns-clause-none : goal.returns-clause-none
returns-clause-none c none k clash = c.loop-k.invariant k (omega (arith, slice_get_within c.args.outputs.now k clash.0 clash.1, c.loop-k-test.false)) clash
