use Rattle.drain_paths.proofs.Names.{◌≡◌, ◌≢◌, ◌+◌, ◌∙◌, get_or, sym, ap, subst, rules, IsCellOf, Extent, IsInside, cell_at, Ends}
use Rattle.drain_paths.specs.declared.flow.Flow.TheVariants.{Void}
use Rattle.drain_paths.proofs.CellPlaces.{cell_of_place, IsPutAt-set}
use Rattle.drain_paths.proofs.FlowCells.{data_at, flow_of_zero, zero_of_flow}
use Rattle.drain_paths.proofs.LabelLemmas.{AreEndLabels-past, AreEndLabels-put}
use Rattle.drain_paths.proofs.basins.number_end.Goals as goal

pub returns-then-ne-clause-labels : goal.returns-then-ne-clause-labels
returns-then-ne-clause-labels t c = λ g ps are.
    (let e = c.args.shape in
    let flows = (t.W.Ways.flows c.args.ways.now) in
    let found = cell_of_place e c.args.place c.requires.inside in
    let cell = cell_at e c.args.place in
    let flow = c.flow.ensures ∙ ap (λ k. get_or flows k Void) (sym found.1) in
    let other : c.flow.result ≢ Ends = search rules in
    let inside : IsInside g cell = subst (λ (x : Extent). IsCellOf x cell) (sym are.extent) found.0 in
    AreEndLabels-past g ps e c.args.place c.args.ends c.args.labels.now cell (c.requires.so_far g ps are) inside found.1
    (λ here is_zero. other (flow ∙ flow_of_zero g ps e flows are cell here is_zero)))

pub returns-clause-labels : goal.returns-clause-labels
returns-clause-labels t c = λ g ps are.
    (let e = c.args.shape in
    let flows = (t.W.Ways.flows c.args.ways.now) in
    let found = cell_of_place e c.args.place c.requires.inside in
    let cell = cell_at e c.args.place in
    let flow = c.flow.ensures ∙ ap (λ k. get_or flows k Void) (sym found.1) in
    let ends : c.flow.result ≡ Ends = search rules in
    let inside : IsInside g cell = subst (λ (x : Extent). IsCellOf x cell) (sym are.extent) found.0 in
    let here = data_at g ps e flows are cell found.0 (λ void. ends_void (sym ends ∙ (flow ∙ void))) in
    AreEndLabels-put g ps e c.args.place c.args.ends c.args.labels.now cell (c.requires.so_far g ps are) inside found.1 _ here
    (zero_of_flow g ps e flows are cell here (sym flow ∙ ends))
    (IsPutAt-set e c.args.labels.now cell c.args.place (c.args.ends + 1) found.0 (sym found.1) c.requires.labels_counted))
  where
    ends_void : Ends ≡ Void → ⊥
    ends_void h = cc
