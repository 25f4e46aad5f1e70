use Rattle.drain_rules.proofs.Names.{tried, IsTriedIf, place}
use Rattle.drain_rules.proofs.AreaGrids.{sound-none}
use Rattle.drain_rules.proofs.walk.Walk.begin.Goals as goal

pub returns-clause-outcome : goal.returns-clause-outcome
returns-clause-outcome g c = λ rules grid ps.
    sound-none (tried rules) (IsTriedIf g.L.Labels.compares rules.judged) (g.L.Labels.judges c.args.labels) grid ps (g.L.Labels.are_before grid ps (place 0 0) c.args.labels) c.new.result
    (c.requires grid ps) c.new.ensures
