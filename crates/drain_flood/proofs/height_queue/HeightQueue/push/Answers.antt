use Rattle.std.proofs.Common.{◌∙◌, sym, w64}
use Rattle.std.proofs.lemmas.Int.{to_z-of_z}
use Rattle.drain_flood.proofs.Waits.{put_pair}
use Rattle.drain_flood.proofs.height_queue.HeightQueue.push.Goals as goal
use Rattle.drain_flood.proofs.height_queue.HeightQueue.push.Goals.{in-Ok, in-Err}

pub returns-clause-put : goal.returns-clause-put
returns-clause-put c =
    elim c.match-push.branch [
      | in-Ok w ↦ rw w.result-is
          (put_pair _ _ _ _ _ _ (c.depth_of.ensures ∙ to_z-of_z w64 c.args.height c.ranges.height) (sym c.self.view_is) w.in-Ok.ensures.permutation)
      | in-Err w ↦ rw w.result-is tt
    ]
