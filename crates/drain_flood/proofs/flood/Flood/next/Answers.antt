use Rattle.drain_flood.proofs.Insides.{next_turn}
use Rattle.drain_flood.proofs.flood.Flood.next.Goals as goal

pub returns-clause-next : goal.returns-clause-next
returns-clause-next t c =
    let s = c.self.inside in
    next_turn c.args.self.now s.shape (t.H.Heights.numbers s.con) s.mark.items s.trail.items c.pop.new.self.items (t.H.Heights.pairs s.waiting) c.self.view_is c.in_ok-place.place
    c.in_ok-place.ensures.items c.self.invariant.places
