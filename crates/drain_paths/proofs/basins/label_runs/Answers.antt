use Rattle.drain_paths.proofs.Names.{arith, in_grid, index_of-below, basin_label}
use Rattle.drain_paths.proofs.FlowCells.{flow_of_data}
use Rattle.drain_paths.proofs.NumbersSoFar.{AreNumbers-all}
use Rattle.drain_paths.proofs.basins.label_runs.Goals as goal

pub returns : goal.returns
returns t c = λ g ps are.
    (let e = c.args.shape in
    let inv = c.loop-place.invariant in
    AreNumbers-all g ps e 0 basin_label c.loop-place.labels (inv.so_far g ps are) (λ d here.
    (let inside = in_grid g e d are.extent here.inside in
    let below = index_of-below e d inside in
    let cells = c.cells-place-end.ensures.product in
    inv.passed d inside (omega (arith, below, cells)) (flow_of_data g ps e (t.O.Onward.flows c.args.onward.now) are d here))))
