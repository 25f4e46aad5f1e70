use Rattle.drain_flood.proofs.Names.{◌∙◌, ◌≤◌, ◌-◌, ◌*◌, ap, subst, pos, slice_index, slice_index_or, ◌+◌, arith, IsLane}
use Rattle.drain_flood.proofs.Laying.{laid_row}
use Rattle.drain_flood.proofs.falls.lay_row.Goals as goal

pub returns-then-down-rows-clause-lanes : goal.returns-then-down-rows-clause-lanes
returns-then-down-rows-clause-lanes c =
    let f = c.args.surface.now in
    let shape = c.shape-shape.ensures in
    laid_row f.extent f c.args.down c.row_start.result _ c.lay_heights.new.lanes c.if-down-gt0.true
    (subst (λ e. c.args.down ≤ e.rows) shape (omega arith)) (c.row_start.ensures.place ∙ ap (λ e. (c.args.down - 1) * e.cols) shape) c.requires
    c.lay_heights.ensures.first c.lay_heights.ensures.last
    (λ k less. subst (λ xs. IsLane (slice_index_or xs (c.row_start.result + k) (pos 0)) (slice_index c.lay_heights.new.lanes (k + 1))) (c.as_slice.ensures.value ∙ c.heights.ensures.heights)
    (c.lay_heights.ensures.lanes k less))
