use Rattle.drain_paths.proofs.Names.{◌*◌, ◌∙◌, ap, refl, subst, sym, arith, IsCellOf, index_of, Extent, elevation_at, number_at, index_of-below, cell_flow}
use Rattle.std.proofs.Common.{length-set}
use Rattle.drain_paths.proofs.GridFlows.{HaveFlows-more}
use Rattle.drain_paths.proofs.cell_flows.flows_of_rasters.Goals as goal

pub loop-place-preserved : goal.loop-place-preserved
loop-place-preserved c =
    let same = c.shape-shape.ensures in
    let here = c.cell.result in
    record {
      counted = length-set c.loop-place.flows.items c.loop-place.place c.flow_of_cell.result ∙ c.loop-place.invariant.counted;
      so_far = HaveFlows-more c.args.elevation.now.extent (λ d. cell_flow (elevation_at c.args.elevation.now d) (number_at c.args.dir.now d))
          c.loop-place.place c.loop-place.flows.items here c.flow_of_cell.result c.loop-place.invariant.counted
          (subst (λ (x : Extent). IsCellOf x here) same c.cell.ensures.inside) (ap (λ (x : Extent). index_of x here) (sym same) ∙ c.cell.ensures.place)
          c.flow_of_cell.ensures c.loop-place.invariant.so_far;
    }

pub returns-clause-flows : goal.returns-clause-flows
returns-clause-flows c = record {
  extent = refl;
  each = λ d inside.
      (let below = index_of-below c.args.elevation.now.extent d inside in
      let cells = c.cells-place-end.ensures.product in
      let size = ap (λ (x : Extent). x.rows * x.cols) c.shape-shape.ensures in
      c.loop-place.invariant.so_far d inside (omega (arith, below, cells, size, c.loop-place-test.false)));
}
