use Rattle.drain_merge.proofs.Names.{slice_index_or, slice_set, ap, ◌∙◌, arith, get_or_default, map_over_more, Cell, place, cell_from, box_at}
use Rattle.drain_merge.proofs.map_merge.move_sinks.Goals as goal

pub loop-i-preserved : goal.loop-i-preserved
loop-i-preserved c =
    let sinks = c.loop-i.sinks in
    let i = c.loop-i.i in
    let x = slice_index_or sinks i (place 0 0) in
    ap (λ (y : Cell). slice_set sinks i y) c.cell_in.ensures
    ∙ map_over_more (cell_from (box_at c.args.bounds.now).origin) c.args.sinks.now sinks i x c.loop-i-test.true c.loop-i.invariant
    (get_or_default sinks i (place 0 0) x (omega (arith, c.loop-i.auto.sinks, c.loop-i-test.true)))
