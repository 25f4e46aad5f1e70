use Rattle.drain_flood.proofs.Names.{◌≡◌, ◌*◌, ◌∙◌, [], ap, subst, arith, AreLaid}
use Rattle.drain_flood.proofs.flats.Flats.find_low_edges.Goals as goal

pub returns-clause-laid : goal.returns-clause-laid
returns-clause-laid t c = λ g same laid.
    (let shape = ap (λ w. w.extent.rows * w.extent.cols) c.self.view_is in
    let at_end : c.loop-place.place ≡ c.cells-place-end.result = omega arith in
    subst (λ k. AreLaid g c.args.surface.now c.loop-place.self k []) (at_end ∙ (c.cells-place-end.ensures.product ∙ shape)) (c.loop-place.invariant.laid g same laid))
