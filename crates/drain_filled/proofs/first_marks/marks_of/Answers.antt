use Rattle.drain_filled.proofs.Names.{one_more, with_next, within, IsFirstMark, index_of-below, Extent, IsCellOf, index_of, ap, get_or, length, subst, sym, ◌*◌, ◌∙◌, ◌≡◌}
use Rattle.drain_filled.proofs.first_marks.marks_of.Goals as goal

pub loop-place-preserved : goal.loop-place-preserved
loop-place-preserved c = record {
  long = ap length c.in_ok-push.ensures.items ∙ one_more c.loop-place.marks.items _ c.loop-place.place c.loop-place.invariant.long;
  marks = λ g cells at inside less.
      (let shape : c.shape-shape.result ≡ g.extent = c.shape-shape.ensures ∙ sym cells.extent in
      subst (λ xs. IsFirstMark g at (get_or xs (index_of g.extent at) 0)) (sym c.in_ok-push.ensures.items)
      (with_next g (IsFirstMark g) c.loop-place.marks.items _ c.loop-place.place c.cell.result
      (subst (λ (e : Extent). IsCellOf e c.cell.result) shape c.cell.ensures.inside)
      (ap (λ (e : Extent). index_of e c.cell.result) (sym shape) ∙ c.cell.ensures.place) c.loop-place.invariant.long
      (c.mark_of.ensures.mark g cells) (c.loop-place.invariant.marks g cells) at inside less));
}

pub returns-clause-marks : goal.returns-clause-marks
returns-clause-marks c = λ g cells.
    (let all : c.cells-place-end.result ≡ g.extent.rows * g.extent.cols =
    c.cells-place-end.ensures.product ∙ ap (λ (e : Extent). e.rows * e.cols) (c.shape-shape.ensures ∙ sym cells.extent) in
    record {
      extent = cells.extent;
      each = λ at inside.
          c.loop-place.invariant.marks g cells at inside
          (within (index_of g.extent at) (g.extent.rows * g.extent.cols) c.cells-place-end.result c.loop-place.place (index_of-below g.extent at inside) all c.loop-place-test.false);
    })
