use Rattle.drain_filled.proofs.Names.{◌∙◌, rules, sym, false≢true}
use Rattle.drain_filled.proofs.FirstCon.{no_data_at, one_more_place, same_at}
use Rattle.drain_filled.proofs.compare.first_other.Goals as goal
use Rattle.drain_filled.proofs.compare.first_other.Goals.{then-not-is_same_at+else-has_data, else-not-is_same_at}

pub loop-place-preserved : goal.loop-place-preserved
loop-place-preserved c =
    let w = c.args.ground.now in
    let con = c.args.con.now in
    let least = c.args.least.now in
    let place = c.loop-place.place in
    one_more_place w con least place
    (elim c.if-not-is_same_at.branch [
      | then-not-is_same_at+else-has_data w ↦
          no_data_at c.args.ground.now con least place w.cell-cell.result (search rules) (search rules)
          (λ mark. false≢true (sym w.if-has_data.false ∙ w.has_data.ensures.1 mark))
      | else-not-is_same_at w ↦ same_at c.args.ground.now con least place (c.is_same_at.ensures.0 w.if-not-is_same_at.false)
    ])
    c.loop-place.invariant
