use Rattle.drain_paths.proofs.Names.{inl, sym, subst, rules, IsCellOf, Extent, IsInside}
use Rattle.drain_paths.proofs.KnownWays.{known_at, leads_on}
use Rattle.drain_paths.proofs.endless_path.lost_by.Goals as goal

pub returns-else-eq-2 : goal.returns-else-eq-2
returns-else-eq-2 c = λ g ps known here.
    (let e = c.args.shape in
    let n = c.in-Some-step.next in
    let there : IsInside g n = subst (λ (x : Extent). IsCellOf x n) (sym known.extent) c.in-Some-step.ensures.inside in
    inl (
      n,
      leads_on g ps e known.extent c.args.cell c.at-flow.result
          (known_at g ps e c.args.flows.now c.args.cell c.index.result c.at-flow.result known here.inside c.index.ensures.place c.at-flow.ensures)
          c.in-Some.direction n c.at.result (search rules) (search rules)
          (known_at g ps e c.args.flows.now n c.index-in-Some-step.result c.at.result known there c.index-in-Some-step.ensures.place c.at.ensures)
          (search rules),
    ))
