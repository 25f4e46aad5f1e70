use Rattle.drain_flood.proofs.Names.{listed_at, sym, ◌∙◌}
use Rattle.drain_flood.proofs.flood.fill_heights.Goals as goal

pub returns-clause-filled : goal.returns-clause-filled
returns-clause-filled t c = λ g marked between.
    c.in_ok-spread.ensures.filled g (listed_at c.args.shape (t.H.Heights.numbers c.args.heights)) (marked.extent ∙ sym c.in_ok-flood.ensures.extent)
    (c.in_ok-flood.ensures.laid g marked between)
