use Rattle.drain_flood.proofs.Names.{Flooding, subst, sym, ◌*◌, ◌<◌}
use Rattle.drain_flood.proofs.Turns.{put_places}
use Rattle.drain_flood.proofs.flood.Flood.wait.Goals as goal

pub invariant_of-self : goal.invariant_of-self
invariant_of-self t c =
    let parts = c.self.invariant in
    record {
      few = parts.few;
      con_long = parts.con_long;
      mark_long = parts.mark_long;
      places = parts.places;
      waiting_places = put_places c.push.result (c.self.inside.shape.rows * c.self.inside.shape.cols) _ c.args.place (t.H.Heights.pairs c.self.inside.waiting) (t.H.Heights.pairs c.push.new.waiting)
          (subst (λ (f : Flooding). c.args.place < f.extent.rows * f.extent.cols) (sym c.self.view_is) c.requires.below) parts.waiting_places c.push.ensures.put c.push.ensures.kept;
      inside = parts.inside;
    }
