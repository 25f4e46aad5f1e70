use Rattle.drain_flood.proofs.Names.{IsFreshAt, IsCellOf, index_of, ap, subst, sym, ◌∙◌, ◌≡◌, false≢true}
use Rattle.drain_flood.proofs.Looking.{none_around}
use Rattle.drain_flood.proofs.flood.Flood.look_inside.Goals as goal

pub returns-else-has_fresh_beside-clause-around : goal.returns-else-has_fresh_beside-clause-around
returns-else-has_fresh_beside-clause-around t c = λ g first stand busy cell same at before.
    (let s = c.args.self.now in
    let inside : IsCellOf s.extent cell = subst (λ x. IsCellOf x cell) same before.reached.here.inside in
    let place : c.args.place ≡ index_of s.extent cell = at ∙ ap (λ x. index_of x cell) same in
    none_around g first s stand busy cell _ c.args.raises
    (λ d n fresh. false≢true (sym c.if-has_fresh_beside.false ∙ (c.has_fresh_beside.ensures cell inside place).1 (d, (n, subst (λ x. IsFreshAt x s cell d n) same fresh)))) before)
