use Rattle.drain_filled.proofs.Names.{listed_grid, HasFirstMarks, IsBetween, listed_at, Extent, [], subst, sym, IfOk-weaker}
use Rattle.drain_filled.proofs.FirstUnfilled.{cells_of, its_own}
use Rattle.drain_filled.proofs.first_marks.fill.Goals as goal

pub fill_heights-requires-clause-marked : goal.fill_heights-requires-clause-marked
fill_heights-requires-clause-marked c =
    let w = c.args.ground.now in
    let g = listed_grid w [] c.args.sinks.now in
    let marks = c.in_ok-marks.ensures.marks g (cells_of g w [] c.args.sinks.now (its_own g)) in
    (g, subst (λ (e : Extent). HasFirstMarks g e c.in_ok-marks.marks.items) (sym c.shape.ensures) marks)

pub returns-clause-surface : goal.returns-clause-surface
returns-clause-surface c =
    IfOk-weaker c.fill_heights.result _ _ (λ flood filled g cells between.
    (filled g (subst (λ (e : Extent). HasFirstMarks g e c.in_ok-marks.marks.items) (sym c.shape.ensures) (c.in_ok-marks.ensures.marks g cells))
    (subst (λ (e : Extent). IsBetween g (listed_at e c.args.heights.items)) (sym c.shape.ensures) between)).surface)
    c.fill_heights.ensures.filled
