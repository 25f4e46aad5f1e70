use Rattle.std.proofs.Common.{◌∙◌, ◌-◌, ◌*◌, ◌≤◌, ap, subst, arith}
use Rattle.drain_flood.proofs.GapMarks.{marks_of_grounds}
use Rattle.drain_flood.proofs.open_cells.lay_marks.Goals as goal

pub returns-then-down-rows : goal.returns-then-down-rows
returns-then-down-rows c =
    let shape = c.shape-shape.ensures in
    marks_of_grounds c.args.elevation.now c.args.con.now c.args.down c.row_start.result _ c.mark_data.new.marks c.requires.grounds c.if-down-gt0.true
    (subst (λ e. c.args.down ≤ e.rows) shape (omega arith)) (c.row_start.ensures.place ∙ ap (λ e. (c.args.down - 1) * e.cols) shape) c.requires.len c.mark_data.ensures.len
    c.mark_data.ensures.first c.mark_data.ensures.last c.mark_data.ensures.marks
