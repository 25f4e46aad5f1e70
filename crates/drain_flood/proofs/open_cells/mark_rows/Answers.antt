use Rattle.drain_flood.proofs.Names.{◌≡◌, ◌+◌, ◌∙◌, subst, arith, spaced_grid, AreDataMarks}
use Rattle.drain_flood.proofs.GapMarks.{rows_more}
use Rattle.drain_flood.proofs.open_cells.mark_rows.Goals as goal

pub loop-row-preserved : goal.loop-row-preserved
loop-row-preserved c =
    let h = c.args.elevation.now in
    let known = c.loop-row.invariant in
    let put = c.put_row.ensures in
    record {
      counted = put.counted ∙ known.counted;
      listed = c.mark_row.ensures.counted ∙ known.listed;
      above = put.above;
      here =
          (let next : c.loop-row.row + 2 ≡ c.loop-row.row + 1 + 1 = omega arith in
          subst (λ row. AreDataMarks h row c.put_row.new.self.below.items) next put.here);
      room = put.room;
      marks = λ spacing. rows_more (spaced_grid spacing h c.args.sinks.now) c.loop-row.row c.loop-row.marks c.put_row.new.marks (known.marks spacing)
          (put.row spacing c.args.sinks.now c.mark_row.ensures.listed) put.others;
    }
