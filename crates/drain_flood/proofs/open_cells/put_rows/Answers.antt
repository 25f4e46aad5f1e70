use Rattle.std.proofs.Common.{◌∙◌, ◌+◌, ◌*◌, ◌≤◌, ap, subst, rules, arith}
use Rattle.drain_flood.proofs.GapMarks.{grounds_more, row_long}
use Rattle.drain_flood.proofs.open_cells.put_rows.Goals as goal

pub put_samples-requires-clause-inside : goal.put_samples-requires-clause-inside
put_samples-requires-clause-inside c =
    let e = c.args.elevation.now.extent in
    let long = row_long c.args.elevation.now c.loop-row.row c.as_slice.result.now (c.as_slice.ensures.value ∙ c.in_ok-read_row.ensures.row) in
    let counted = c.loop-row.invariant.counted in
    let whole : c.row_start.result + e.cols ≤ e.rows * e.cols = subst (λ e. c.row_start.result + e.cols ≤ e.rows * e.cols) c.shape-shape.ensures c.row_start.ensures.whole in
    omega (arith, long, counted, whole)

pub loop-row-preserved : goal.loop-row-preserved
loop-row-preserved c = record {
  counted = c.put_samples.ensures.len ∙ c.loop-row.invariant.counted;
  each = grounds_more c.args.elevation.now c.loop-row.row c.row_start.result c.as_slice.result.now c.loop-row.con c.put_samples.new.con
      (c.row_start.ensures.place ∙ ap (λ e. c.loop-row.row * e.cols) c.shape-shape.ensures) (c.as_slice.ensures.value ∙ c.in_ok-read_row.ensures.row)
      (search rules) c.put_samples.ensures.row c.put_samples.ensures.others c.loop-row.invariant.each;
}
