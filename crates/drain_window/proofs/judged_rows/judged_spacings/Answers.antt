use Rattle.drain_window.proofs.Names.{◌≡◌, subst, arith, spacing_of}
use Rattle.drain_window.proofs.RowLists.{are_rows, AreFirst, first_more, first_none}
use Rattle.drain_window.proofs.judged_rows.judged_spacings.Goals as goal

pub loop-row-init : goal.loop-row-init
loop-row-init c = rw (c.new-listed.ensures.items) (first_none (spacing_of c.args.spacings.now) c.args.place.now)

pub loop-row-preserved : goal.loop-row-preserved
loop-row-preserved c =
    rw (c.in_ok-push.ensures.items)
    (first_more (spacing_of c.args.spacings.now) c.args.place.now c.loop-row.row c.loop-row.listed.items c.of_row.result c.of_row.ensures c.loop-row.invariant)

pub returns : goal.returns
returns c =
    let sp = spacing_of c.args.spacings.now in
    let all : c.loop-row.row ≡ c.rows_to_list-row-end.result = omega (arith, c.loop-row-test.false, c.loop-row.auto.row-end) in
    are_rows sp c.args.place.now c.rows_to_list-row-end.result c.loop-row.listed.items c.rows_to_list-row-end.ensures.enough
    (subst (λ n. AreFirst sp c.args.place.now n c.loop-row.listed.items) all c.loop-row.invariant)
