use mir.Syntax.{w64}
use Rattle.drain_flood.proofs.Names.{ap, set, ◌∙◌, to_z-of_z}
use Rattle.drain_flood.proofs.Putting.{put_reaches_at}
use Rattle.drain_flood.proofs.flood.Flood.reach.Goals as goal
use Rattle.drain_flood.proofs.flood.Flood.reach.Goals.{in-Ok, in-Err}

pub returns-clause-reaches : goal.returns-clause-reaches
returns-clause-reaches t c =
    let s = c.self.inside in
    let together = c.self.invariant in
    elim c.match-push.branch [
      | in-Ok w ↦ rw w.result-is
          (put_reaches_at c.args.self.now s.shape (t.H.Heights.numbers s.con) (t.H.Heights.numbers c.put.new.self) s.mark.items s.trail.items _ (t.H.Heights.pairs s.waiting) c.self.view_is
          c.args.place c.args.height
          together.con_long together.mark_long c.requires.fresh
          (c.put.ensures ∙ ap (λ z. set (t.H.Heights.numbers s.con) c.args.place z) (to_z-of_z w64 c.args.height c.ranges.height)) w.in-Ok.ensures.items)
      | in-Err w ↦ rw w.result-is tt
    ]
