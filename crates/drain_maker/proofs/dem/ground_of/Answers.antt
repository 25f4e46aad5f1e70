use Rattle.drain_maker.proofs.Names.{◌≡◌, ◌∙◌, ◌*◌, [], length, get_or, sym, ap, subst, Extent, IsCellOf, index_of, index_of-below, one_more, with_next, within, DataCells, IsMarkedBy, dem_grid}
use Rattle.drain_maker.proofs.dem.ground_of.Goals as goal

pub loop-place-preserved : goal.loop-place-preserved
loop-place-preserved c = record {
  long = ap length c.in_ok-push.ensures.items ∙ one_more c.loop-place.marks.items _ c.loop-place.place c.loop-place.invariant.long;
  marks = λ at inside less.
      (let p = c.args.dem.now in
      let shape : c.shape-shape.result ≡ p.extent = c.shape-shape.ensures in
      subst (λ xs. IsMarkedBy p at (get_or xs (index_of p.extent at) 0)) (sym c.in_ok-push.ensures.items)
      (with_next (dem_grid p []) (IsMarkedBy p) c.loop-place.marks.items _ c.loop-place.place c.cell.result
      (subst (λ (e : Extent). IsCellOf e c.cell.result) shape c.cell.ensures.inside)
      (ap (λ (e : Extent). index_of e c.cell.result) (sym shape) ∙ c.cell.ensures.place) c.loop-place.invariant.long
      c.mark_of.ensures c.loop-place.invariant.marks at inside less));
}

pub returns : goal.returns
returns c =
    let p = c.args.dem.now in
    let all : c.cells-place-end.result ≡ p.extent.rows * p.extent.cols =
    c.cells-place-end.ensures.product ∙ ap (λ (e : Extent). e.rows * e.cols) c.shape-shape.ensures in
    record {
      extent = ap (λ (w : DataCells). w.extent) c.new.ensures ∙ c.shape-shape.ensures;
      marks = λ at inside.
          subst (λ (w : DataCells). IsMarkedBy p at (get_or w.marks (index_of w.extent at) 0)) (sym c.new.ensures)
          (subst (λ (e : Extent). IsMarkedBy p at (get_or c.loop-place.marks.items (index_of e at) 0)) (sym c.shape-shape.ensures)
          (c.loop-place.invariant.marks at inside
          (within (index_of p.extent at) (p.extent.rows * p.extent.cols) c.cells-place-end.result c.loop-place.place (index_of-below p.extent at inside) all c.loop-place-test.false)));
    }
