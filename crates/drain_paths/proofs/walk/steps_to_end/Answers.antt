use Rattle.drain_paths.proofs.Names.{arith, IsWalk-endless, endless-stuck}
use Rattle.drain_paths.proofs.FlowWalks.{HasCome-more, too_far}
use Rattle.drain_paths.proofs.Shorter.{RunEnds-walk}
use Rattle.drain_paths.proofs.walk.steps_to_end.Goals as goal

pub returns-in-Ends : goal.returns-in-Ends
returns-in-Ends c = λ g ps known here.
    (let come = c.loop-walked.invariant.come g ps known here in
    RunEnds-walk g ps c.loop-walked.walked c.args.start c.loop-walked.here come.walk (c.in-Ends.ensures.way g ps known come.to_data))

pub returns-in-Lost : goal.returns-in-Lost
returns-in-Lost c = λ g ps known here.
    (let come = c.loop-walked.invariant.come g ps known here in
    IsWalk-endless g ps c.loop-walked.walked c.args.start c.loop-walked.here come.walk
    (let stuck = c.in-Lost.ensures.way g ps known come.to_data in endless-stuck g ps c.loop-walked.here stuck.0 stuck.1))

pub loop-walked-preserved : goal.loop-walked-preserved
loop-walked-preserved c = record {
  inside = c.in-On.ensures.inside;
  come = λ g ps known here.
      (let come = c.loop-walked.invariant.come g ps known here in
      HasCome-more g ps c.loop-walked.walked c.args.start c.loop-walked.here c.in-On.next come
      (c.in-On.ensures.way g ps known come.to_data));
}

pub returns : goal.returns
returns c = λ g ps known here.
    (let come = c.loop-walked.invariant.come g ps known here in
    too_far g ps c.args.shape c.loop-walked.walked c.args.start c.loop-walked.here known.extent come
    (let cells = c.cells-walked-end.ensures.product in omega (arith, cells)))
