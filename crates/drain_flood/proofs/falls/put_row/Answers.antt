use Rattle.drain_flood.proofs.Names.{◌∙◌, ◌*◌, ◌+◌, ◌<◌, length, sym, ap, subst, AreRowLanes}
use Rattle.drain_flood.proofs.Laying.{row_code}
use Rattle.drain_flood.proofs.falls.put_row.Goals as goal

pub returns-clause-row : goal.returns-clause-row
returns-clause-row c = λ g same unit flooded cell inside at.
    (let f = c.args.surface.now in
    let row = c.args.row in
    let a = c.lay_row.new.lanes in
    let h = c.lay_row-2.new.lanes in
    let b = c.lay_row-3.new.lanes in
    let in_old : cell.col < length c.args.codes.now =
    subst (λ n. cell.col < n) (ap (λ e. e.cols) same ∙ sym c.requires.codes_len) inside.col in
    let in_new : cell.col < length c.find_falls.new.codes = subst (λ n. cell.col < n) (sym c.find_falls.ensures.len) in_old in
    row_code g f cell row c.row_start.result a h b c.find_falls.new.codes c.marks.result.now c.put_codes.new.dirs flooded unit inside at
    (subst (λ e. AreRowLanes e f row a) (sym same) c.lay_row.ensures.lanes) (subst (λ e. AreRowLanes e f (row + 1) h) (sym same) c.lay_row-2.ensures.lanes)
    (subst (λ e. AreRowLanes e f (row + 2) b) (sym same) c.lay_row-3.ensures.lanes) (c.find_falls.ensures.falls cell.col in_old) c.marks.ensures.marks
    (c.row_start.ensures.place ∙ ap (λ e. row * e.cols) (c.shape.ensures ∙ sym same)) (λ small. c.put_codes.ensures.row cell.col in_new small))
