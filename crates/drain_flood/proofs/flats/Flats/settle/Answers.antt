use Rattle.drain_flood.proofs.Walking.{put_settles_at}
use Rattle.drain_flood.proofs.flats.Flats.settle.Goals as goal
use Rattle.drain_flood.proofs.flats.Flats.settle.Goals.{in-Ok, in-Err}

pub returns-clause-settles : goal.returns-clause-settles
returns-clause-settles c =
    let s = c.self.inside in
    let together = c.self.invariant in
    elim c.match-push.branch [
      | in-Ok w ↦ rw w.result-is
          (put_settles_at c.args.self.now s.shape s.way.items s.rnk.items s.trail.items _ s.head c.self.view_is
          c.args.place c.args.code c.args.rank
          together.way_long together.rank_long together.head_in c.requires.flat c.requires.coded w.in-Ok.ensures.items)
      | in-Err w ↦ rw w.result-is tt
    ]
