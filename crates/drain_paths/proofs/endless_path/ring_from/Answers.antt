use Rattle.std.proofs.Common.{◌∙◌, length, ap, sym, subst, rules}
use Rattle.drain_paths.proofs.EndlessSteps.{ArePassed, passed-none, ring-closed, told-long, told-more, walked-more, walked-none}
use Rattle.drain_paths.proofs.Rings.{no_ring-way}
use Rattle.drain_paths.proofs.endless_path.ring_from.Goals as goal

pub returns-then-eq : goal.returns-then-eq
returns-then-eq c = λ g ps known here.
    (let walked = c.loop-walked.invariant.walked g ps known here in (
      ring-closed g ps c.args.first c.loop-walked.here c.in-On.next c.loop-walked.walked walked (c.in-On.ensures.way g ps known walked.has_data) (search rules),
      record {
        each = subst (ArePassed g ps c.args.first) (sym c.in_ok-tell.ensures)
            (told-more g ps c.args.first c.loop-walked.here c.loop-walked.cells.items c.loop-walked.walked (c.loop-walked.invariant.passed g ps known here) c.loop-walked.invariant.told walked.led);
        told = ap length c.in_ok-tell.ensures ∙ told-long c.loop-walked.here c.loop-walked.cells.items c.loop-walked.walked c.loop-walked.invariant.told;
      },
    ))

pub loop-walked-init : goal.loop-walked-init
loop-walked-init c = record {
  inside = c.requires.inside;
  told = ap length c.in_ok-cells.ensures.items;
  walked = λ g ps known here. walked-none g ps c.args.first here;
  passed = λ g ps known here. subst (ArePassed g ps c.args.first) (sym c.in_ok-cells.ensures.items) (passed-none g ps c.args.first);
}

pub loop-walked-preserved : goal.loop-walked-preserved
loop-walked-preserved c = record {
  inside = c.in-On.ensures.inside;
  told = ap length c.in_ok-tell.ensures ∙ told-long c.loop-walked.here c.loop-walked.cells.items c.loop-walked.walked c.loop-walked.invariant.told;
  walked = λ g ps known here.
      (let walked = c.loop-walked.invariant.walked g ps known here in
      walked-more g ps c.args.first c.loop-walked.here c.in-On.next c.loop-walked.walked walked (c.in-On.ensures.way g ps known walked.has_data) (search rules));
  passed = λ g ps known here.
      (let walked = c.loop-walked.invariant.walked g ps known here in
      subst (ArePassed g ps c.args.first) (sym c.in_ok-tell.ensures)
      (told-more g ps c.args.first c.loop-walked.here c.loop-walked.cells.items c.loop-walked.walked (c.loop-walked.invariant.passed g ps known here) c.loop-walked.invariant.told walked.led));
}

pub returns-in_default : goal.returns-in_default
returns-in_default c = λ g ps known here.
    (let walked = c.loop-walked.invariant.walked g ps known here in
    no_ring-way g ps c.args.first c.loop-walked.here c.loop-walked.walked c.way_of.result walked (c.way_of.ensures.way g ps known walked.has_data)
    c.in_default.not-On)
