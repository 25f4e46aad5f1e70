use Rattle.drain_grid.proofs.Names.{◌<◌, ◌^◌, ◌∙◌, ap, rules, is_listed}
use Rattle.drain_grid.proofs.SinkFaults.{listed_by_search}
use Rattle.drain_grid.proofs.sinks.Sinks.has.Goals as goal

pub returns : goal.returns
returns c =
    let narrow : c.args.cell.col < 2 ^ 32 = search rules in
    c.is_ok.ensures.value
    ∙ listed_by_search c.self.inside.lines c.self.inside.places.items c.deref.result.now c.args.cell c.place_of.result
    c.self.invariant narrow c.deref.ensures.value c.place_of.ensures c.binary_search.result c.binary_search.ensures.position
    ∙ ap (λ sinks. is_listed sinks c.args.cell) c.self.view_is
