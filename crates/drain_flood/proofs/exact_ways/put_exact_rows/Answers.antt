use Rattle.std.proofs.Common.{◌≡◌, ◌∙◌, ◌*◌, ◌<◌, ◌≤◌, sym, ap, subst, arith}
use Rattle.drain_flood.proofs.Laying.{row_more, all_rows}
use Rattle.drain_flood.proofs.exact_ways.put_exact_rows.Goals as goal

pub loop-row-init : goal.loop-row-init
loop-row-init t c = λ g same spaced surface cell inside less. absurd (omega (arith, less))

pub loop-row-preserved : goal.loop-row-preserved
loop-row-preserved t c = λ g same spaced surface.
    (let row = c.loop-row.row in
    let rows : c.rows-row-end.result ≡ g.extent.rows = c.rows-row-end.ensures ∙ ap (λ e. e.rows) (c.shape.ensures ∙ sym same) in
    let here : row < g.extent.rows = subst (λ n. row < n) rows c.loop-row-test.true in
    row_more g c.args.surface.now row c.loop-row.dirs c.put_exact_row.new.dirs (c.loop-row.invariant g same spaced surface)
    (c.put_exact_row.ensures.row g same (spaced row here ∙ sym c.of_row.ensures) surface)
    (λ i less. c.put_exact_row.ensures.others i (subst (λ e. i < row * e.cols) same less)))

pub returns-clause-codes : goal.returns-clause-codes
returns-clause-codes t c = λ g same spaced surface.
    (let shape : c.shape.result ≡ g.extent = c.shape.ensures ∙ sym same in
    let end : c.rows-row-end.result ≡ g.extent.rows = c.rows-row-end.ensures ∙ ap (λ e. e.rows) shape in
    all_rows g c.args.surface.now c.loop-row.row c.loop-row.dirs
    (c.loop-row.auto.dirs ∙ (c.requires.dirs_len ∙ ap (λ e. e.rows * e.cols) (sym same))) (subst (λ n. n ≤ c.loop-row.row) end c.loop-row-test.false)
    (c.loop-row.invariant g same spaced surface))
