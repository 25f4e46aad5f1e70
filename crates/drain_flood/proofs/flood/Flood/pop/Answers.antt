use Rattle.drain_flood.proofs.Names.{Flooding, IfSome, subst, ◌*◌, ◌<◌}
use Rattle.drain_flood.proofs.Turns.{out_below, out_places}
use Rattle.drain_flood.proofs.flood.Flood.pop.Goals as goal

pub returns-clause-below : goal.returns-clause-below
returns-clause-below t c =
    subst (λ (f : Flooding). IfSome c.pop.result (λ pair. pair.1 < f.extent.rows * f.extent.cols)) c.self.view_is
    (out_below c.pop.result (c.self.inside.shape.rows * c.self.inside.shape.cols) (t.H.Heights.pairs c.self.inside.waiting) (t.H.Heights.pairs c.pop.new.waiting) c.self.invariant.waiting_places c.pop.ensures.taken)

pub invariant_of-self : goal.invariant_of-self
invariant_of-self t c =
    let parts = c.self.invariant in
    record {
      few = parts.few;
      con_long = parts.con_long;
      mark_long = parts.mark_long;
      places = parts.places;
      waiting_places = out_places c.pop.result (c.self.inside.shape.rows * c.self.inside.shape.cols) (t.H.Heights.pairs c.self.inside.waiting) (t.H.Heights.pairs c.pop.new.waiting) parts.waiting_places
          c.pop.ensures.taken c.pop.ensures.none;
      inside = parts.inside;
    }
