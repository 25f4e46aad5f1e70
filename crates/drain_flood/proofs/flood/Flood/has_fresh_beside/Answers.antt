use Rattle.drain_flood.proofs.Names.{IsFreshAt, Cell}
use Rattle.drain_flood.proofs.Looking.{some_of_eight}
use Rattle.drain_flood.proofs.flood.Flood.has_fresh_beside.Goals as goal

pub returns : goal.returns
returns t c = λ cell inside at.
    some_of_eight (λ d. (n : Cell) × IsFreshAt c.args.self.now.extent c.args.self.now cell d n) _ _ _ _ _ _ _ _
    (c.is_fresh-east.ensures cell inside at) (c.is_fresh-south_east.ensures cell inside at)
    (c.is_fresh-south.ensures cell inside at) (c.is_fresh-south_west.ensures cell inside at)
    (c.is_fresh-west.ensures cell inside at) (c.is_fresh-north_west.ensures cell inside at)
    (c.is_fresh-north.ensures cell inside at) (c.is_fresh-north_east.ensures cell inside at)
