use Rattle.drain_window.proofs.Names.{◌≡◌, ◌<◌, sym, subst, arith, spacing_of}
use Rattle.drain_window.proofs.RowLists.{listed_anew, listed_as_last, none_so_far}
use Rattle.drain_window.proofs.judged_rows.rows_to_list.Goals.{then-not-same_spacing, else-not-same_spacing}
use Rattle.drain_window.proofs.judged_rows.rows_to_list.Goals as goal

pub loop-row-init : goal.loop-row-init
loop-row-init c = rw (c.unit-last.ensures) (none_so_far (spacing_of c.args.spacings.now) c.args.place.now)

pub loop-row-preserved : goal.loop-row-preserved
loop-row-preserved c =
    let sp = spacing_of c.args.spacings.now in
    let p = c.args.place.now in
    let row = c.loop-row.row in
    elim c.if-not-same_spacing.branch [
      | then-not-same_spacing w ↦ rw (w.rows-is, w.last-is) (listed_anew sp p row c.of_row-here.result c.of_row-here.ensures)
      | else-not-same_spacing w ↦ rw (w.rows-is, w.last-is)
          (listed_as_last sp p row c.loop-row.rows c.loop-row.last c.of_row-here.result c.loop-row.invariant c.of_row-here.ensures
          (c.same_spacing.ensures.0 w.if-not-same_spacing.false))
    ]

pub returns-clause-enough : goal.returns-clause-enough
returns-clause-enough c =
    let all : c.loop-row.row ≡ c.args.place.now.extent.rows = omega (arith, c.loop-row-test.false, c.loop-row.auto.row-end, c.rows-row-end.ensures) in
    λ row from below. c.loop-row.invariant.alike row from (subst (λ n. row < n) (sym all) below)
