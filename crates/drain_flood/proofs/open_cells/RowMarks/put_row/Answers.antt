use Rattle.drain_flood.proofs.Names.{◌≡◌, ◌∙◌, ◌+◌, ◌*◌, ◌<◌, false, length, drop, slice_index, slice_index_or, sym, ap, subst, rules, take_at, index_of, is_listed, place_in_own_row, AreDataMarks, IsMarkOf, least_around}
use Rattle.drain_flood.proofs.GapMarks.{first_mark_is}
use Rattle.drain_flood.proofs.open_cells.RowMarks.put_row.Goals as goal

pub returns-clause-row : goal.returns-clause-row
returns-clause-row c = λ spacing sinks listed_is cell inside at.
    (let h = c.args.elevation.now in
    let row = c.args.row in
    let a = c.as_slice.result.now in
    let o = c.as_slice-2.result.now in
    let b = c.as_slice-3.result.now in
    let listed = slice_index_or c.args.listed.now cell.col false in
    let above_is : a ≡ c.args.self.now.here.items = cc in
    let here_is : o ≡ c.args.self.now.below.items = cc in
    let room : c.swap-2.new.y.len ≡ h.extent.cols + 2 = search rules in
    let long : length c.lay_marks.new.marks ≡ c.swap-2.new.y.len = c.lay_marks.ensures.counted ∙ sym room in
    let below_is : b ≡ c.lay_marks.new.marks =
    c.as_slice-3.ensures.value ∙ take_at c.lay_marks.new.marks (drop (length c.lay_marks.new.marks) c.swap-2.new.y.items) c.swap-2.new.y.len long in
    let less : cell.col < length c.args.listed.now = subst (λ n. cell.col < n) (sym c.requires.listed) inside.col in
    let place : c.row_start.result + cell.col ≡ index_of h.extent cell =
    place_in_own_row cell.row cell.col row c.row_start.result h.extent.cols at (c.row_start.ensures.place ∙ ap (λ e. row * e.cols) c.shape.ensures) in
    first_mark_is spacing h sinks cell a o b listed (slice_index c.put_marks.new.marks (index_of h.extent cell)) inside
    (subst (λ r. AreDataMarks h r a) (sym at) (subst (AreDataMarks h row) (sym above_is) c.requires.above))
    (subst (λ r. AreDataMarks h (r + 1) o) (sym at) (subst (AreDataMarks h (row + 1)) (sym here_is) c.requires.here))
    (subst (λ r. AreDataMarks h (r + 2) b) (sym at) (subst (AreDataMarks h (row + 2)) (sym below_is) c.lay_marks.ensures))
    (subst (λ r. listed ≡ is_listed sinks (record { row = r; col = cell.col })) (sym at) (listed_is cell.col less))
    (subst (λ i. IsMarkOf (slice_index o (cell.col + 1)) listed (least_around a o b cell.col) (slice_index c.put_marks.new.marks i)) place (c.put_marks.ensures.row cell.col less)))
