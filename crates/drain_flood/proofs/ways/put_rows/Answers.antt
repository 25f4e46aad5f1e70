use Rattle.drain_flood.proofs.Names.{◌≡◌, ◌∙◌, ◌*◌, ◌<◌, ◌≤◌, slice_index, sym, ap, subst, arith, index_of, IsCodeAt}
use Rattle.drain_flood.proofs.Laying.{row_more, all_rows}
use Rattle.drain_flood.proofs.ways.put_rows.Goals.{then-is_unit, else-is_unit}
use Rattle.drain_flood.proofs.ways.put_rows.Goals as goal

pub loop-row-init : goal.loop-row-init
loop-row-init c = λ g same spaced flooded cell inside less. absurd (omega (arith, less))

pub loop-row-preserved : goal.loop-row-preserved
loop-row-preserved c = λ g same spaced flooded.
    (let f = c.args.surface.now in
    let row = c.loop-row.row in
    let rows : c.rows-row-end.result ≡ g.extent.rows = c.rows-row-end.ensures ∙ ap (λ e. e.rows) (c.shape.ensures ∙ sym same) in
    let here : row < g.extent.rows = subst (λ n. row < n) rows c.loop-row-test.true in
    let spacing : g.spacing row ≡ c.of_row-spacing.result = spaced row here ∙ sym c.of_row-spacing.ensures in
    row_more g f row c.loop-row.dirs c.if-is_unit.dirs (c.loop-row.invariant g same spaced flooded)
    (λ cell inside at.
    elim c.if-is_unit.branch [
      | then-is_unit w ↦ subst (λ xs. IsCodeAt g f cell (slice_index xs (index_of g.extent cell))) (sym w.dirs-is)
          (w.put_row.ensures.row g same (spacing ∙ c.is_unit.ensures.0 w.if-is_unit.true) flooded cell inside at)
      | else-is_unit w ↦ subst (λ xs. IsCodeAt g f cell (slice_index xs (index_of g.extent cell))) (sym w.dirs-is)
          (w.put_exact_row.ensures.row g same spacing flooded.surface cell inside at)
    ])
    (λ i less.
    elim c.if-is_unit.branch [
      | then-is_unit w ↦ ap (λ xs. slice_index xs i) w.dirs-is ∙ w.put_row.ensures.others i (subst (λ e. i < row * e.cols) same less)
      | else-is_unit w ↦ ap (λ xs. slice_index xs i) w.dirs-is ∙ w.put_exact_row.ensures.others i (subst (λ e. i < row * e.cols) same less)
    ]))

pub returns-clause-codes : goal.returns-clause-codes
returns-clause-codes c = λ g same spaced flooded.
    (let shape : c.shape.result ≡ g.extent = c.shape.ensures ∙ sym same in
    let end : c.rows-row-end.result ≡ g.extent.rows = c.rows-row-end.ensures ∙ ap (λ e. e.rows) shape in
    all_rows g c.args.surface.now c.loop-row.row c.loop-row.dirs
    (c.loop-row.auto.dirs ∙ (c.requires.dirs_len ∙ ap (λ e. e.rows * e.cols) (sym same))) (subst (λ n. n ≤ c.loop-row.row) end c.loop-row-test.false)
    (c.loop-row.invariant g same spaced flooded))
