use Rattle.drain_paths.proofs.Names.{◌∙◌, ◌*◌, inl, inr, sym, ap, arith, Extent, cell_after}
use Rattle.drain_paths.proofs.EndlessSteps.{come-more, come-none, reached-after}
use Rattle.drain_paths.proofs.Rings.{ends-after}
use Rattle.drain_paths.proofs.endless_path.last_of_walk.Goals as goal

pub loop-walked-init : goal.loop-walked-init
loop-walked-init c = record { inside = c.requires.inside; come = λ g ps known here. come-none g ps c.args.start here }

pub loop-walked-preserved : goal.loop-walked-preserved
loop-walked-preserved c = record {
  inside = c.in-On.ensures.inside;
  come = λ g ps known here.
      (let come = c.loop-walked.invariant.come g ps known here in
      come-more g ps c.args.start c.loop-walked.here c.in-On.next c.loop-walked._walked come (c.in-On.ensures.way g ps known come.has_data));
}

pub returns-in-Ends-clause-reached : goal.returns-in-Ends-clause-reached
returns-in-Ends-clause-reached c = λ g ps known here.
    (let come = c.loop-walked.invariant.come g ps known here in
    ends-after g ps c.loop-walked._walked c.args.start c.loop-walked.here come.led (c.in-Ends.ensures.way g ps known come.has_data))

pub returns-in-Lost-clause-reached : goal.returns-in-Lost-clause-reached
returns-in-Lost-clause-reached c = λ g ps known here.
    (let come = c.loop-walked.invariant.come g ps known here in
    record {
      reached = reached-after g ps c.args.start c.loop-walked.here c.loop-walked._walked come;
      far = inl (c.in-Lost.ensures.way g ps known come.has_data);
    })

pub returns-clause-reached : goal.returns-clause-reached
returns-clause-reached c = λ g ps known here.
    (let come = c.loop-walked.invariant.come g ps known here in
    let cells = c.cells-walked-end.ensures.product in
    let size = ap (λ (e : Extent). e.rows * e.cols) known.extent in
    record {
      reached = reached-after g ps c.args.start c.loop-walked.here c.loop-walked._walked come;
      far = inr (sym (ap (λ k. cell_after g ps k c.args.start) (omega (arith, cells, size))) ∙ come.led);
    })
