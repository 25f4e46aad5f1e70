use Rattle.drain_mosaic.proofs.Names.{rules, ◌≡◌, ◌∙◌, arith, ap, sym, get_or, PlacedRows}
use Rattle.drain_mosaic.proofs.MosaicSteps.{stopped-here, stopped-skip}
use Rattle.drain_mosaic.proofs.mosaic_rows.MosaicRows.wrong_length.Goals as goal

pub returns-then-is_stopped-clause-told : goal.returns-then-is_stopped-clause-told
returns-then-is_stopped-clause-told c not =
    let tiles = c.args.self.now.tiles.items in
    let at : c.index.result.now ≡ get_or tiles c.loop-i.i c.index.result.now = search rules in
    sym (stopped-here tiles 0 c.loop-i.i c.loop-i.i c.index.result.now c.loop-i.invariant (omega arith) (sym (ap (λ (p : PlacedRows). p.rows.progress) at) ∙ c.is_stopped.ensures.0 c.if-is_stopped.true) (omega arith))

pub returns-clause-told : goal.returns-clause-told
returns-clause-told c not = sym (stopped-skip c.args.self.now.tiles.items 0 c.loop-i.i c.loop-i.invariant (omega arith))
