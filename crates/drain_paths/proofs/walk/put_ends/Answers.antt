use Rattle.drain_paths.proofs.Names.{rules, sym, subst, AreKnownFlows}
use Rattle.drain_paths.proofs.KnownWays.{AreKnownFlows-put}
use Rattle.drain_paths.proofs.Shorter.{IsEnded-next}
use Rattle.drain_paths.proofs.walk.put_ends.Goals as goal

pub loop-preserved : goal.loop-preserved
loop-preserved c = record {
  counted = search rules;
  inside = c.in-On.ensures.inside;
  ends = λ g ps known here ends.
      (let so_far = c.loop.invariant.ends g ps known here ends in
      record {
        known = subst (λ flows. AreKnownFlows g ps c.args.shape flows) (sym c.set_ended.ensures)
            (AreKnownFlows-put g ps c.args.shape c.loop.flows c.loop.here c.index.result c.index.ensures.place (search rules)
            so_far.ended.here so_far.ended.ends so_far.known);
        ended = IsEnded-next g ps c.loop.here c.in-On.next (c.in-On.ensures.way g ps so_far.known so_far.ended.here) so_far.ended;
      });
}
