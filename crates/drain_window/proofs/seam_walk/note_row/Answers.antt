use Rattle.drain_window.proofs.Names.{◌≡◌, ◌+◌, ◌-◌, sym, subst, arith, on_ok_weaker, AreRowPatches}
use Rattle.drain_window.proofs.SeamCells.{above-more, above-past}
use Rattle.drain_window.proofs.seam_walk.note_row.Goals as goal
use Rattle.drain_window.proofs.seam_walk.note_row.Goals.{then-row-top-via-then-row-top, then-row-top-via-else-row-top+then-row-top-2}

pub returns-then-row-top : goal.returns-then-row-top
returns-then-row-top g c = λ grid ps are wide so_far.
    above-past c.args.origin c.args.place.now grid ps c.args.row c.args.seams.now.items
    (λ from to. elim c.then-row-top.branch [
      | then-row-top-via-then-row-top w ↦ absurd (omega (arith, from, w.if-row-top.true))
      | then-row-top-via-else-row-top+then-row-top-2 w ↦ absurd (omega (arith, to, w.rows.ensures, w.if-row-top-2.true))
    ])
    so_far

pub returns : goal.returns
returns g c =
    let from = c.if-row-top.false in
    let to = c.if-row-top-2.false in
    on_ok_weaker c.note_seams.result
    (λ adds grid ps are wide so_far.
    let same : c.args.place.now.top + (c.args.row - c.args.place.now.top) ≡ c.args.row = omega (arith, from) in
    above-more c.args.origin c.args.place.now grid ps c.args.row c.args.seams.now.items c.note_seams.new.seams.items from (omega (arith, from, to, c.rows.ensures)) so_far
    (adds grid ps
    (subst (λ n. AreRowPatches grid ps n (g.R.PatchRow.len c.args.patches.now) (g.R.PatchRow.shown c.args.patches.now)) (sym same) are) wide))
    c.note_seams.ensures
