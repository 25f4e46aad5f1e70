use Rattle.drain_merge.proofs.Names.{sym, ◌∙◌, false≢true}
use Rattle.drain_merge.proofs.BoxSides.{in_box, rows_in, cols_in}
use Rattle.drain_merge.proofs.box_places.lies_in_box.Goals as goal

pub returns-then-rows_lie_in : goal.returns-then-rows_lie_in
returns-then-rows_lie_in c =
    let bounds = c.args.bounds.now in
    let place = c.args.place.now in (
      (λ is. in_box bounds place (c.rows_lie_in.ensures.0 c.if-rows_lie_in.true) (c.cols_lie_in.ensures.0 is)),
      (λ lies. c.cols_lie_in.ensures.1 (cols_in bounds place lies)),
    )

pub returns-else-rows_lie_in : goal.returns-else-rows_lie_in
returns-else-rows_lie_in c = (
  (λ is. absurd (false≢true (sym c.if-rows_lie_in.false ∙ is))),
  (λ lies. absurd (false≢true (sym c.if-rows_lie_in.false ∙ c.rows_lie_in.ensures.1 (rows_in c.args.bounds.now c.args.place.now lies)))),
)
