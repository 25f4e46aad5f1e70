use Rattle.drain_mosaic.proofs.Names.{IsSample, All-same, ◌≡◌, ℤ, List, [], length, arith, sym, subst, ◌∙◌, ◌⊎◌, stream_of, IsLong}
use Rattle.drain_mosaic.proofs.RowValues.{laid-samples}
use Rattle.drain_mosaic.proofs.Laying.{tile-laid}
use Rattle.drain_mosaic.proofs.TileCalls.{part-fits, read-none, tile-goes}
use Rattle.drain_mosaic.proofs.placed_rows.lay_tile.Goals as goal

pub returns-then-row-tile-clause-read : goal.returns-then-row-tile-clause-read
returns-then-row-tile-clause-read g c = read-none _ _ c.args.tile.now _ (λ e. cc)

pub returns-clause-laid : goal.returns-clause-laid
returns-clause-laid g c told =
    let p = c.args.tile.now in
    let part = c.next_row-answer.new.out.items in
    let within = c.requires.within.1 in
    let step = tile-goes p.rows c.next_row-answer.new.self (g.R.ByteSource.bytes_left c.args.from.now) (g.R.ByteSource.bytes_left c.next_row-answer.new.from) c.next_row-answer.result part (sym c.stop_of.ensures ∙ c.in_default.is) c.next_row-answer.ensures.after c.next_row-answer.ensures.already c.next_row-answer.ensures.empty c.next_row-answer.ensures.rows told in
    let long = part-fits c.args.side c.next_row-answer.result part (subst (λ n. IsLong n c.next_row-answer.result part) within.side_is c.next_row-answer.ensures.long) c.next_row-answer.ensures.empty in
    tile-laid c.args.side c.args.row (stream_of p (g.R.ByteSource.bytes_left c.args.from.now)) c.deref.result.now c.args.out.now c.lay_over.new.row c.lay_over.result (omega arith) (omega arith) (c.deref.ensures.value ∙ step.1)
    (subst (λ (xs : List ℤ). (length xs ≡ c.args.side) ⊎ (xs ≡ [])) (sym c.deref.ensures.value) long) within.inside (record { inside = c.lay_over.ensures.inside; outside = c.lay_over.ensures.outside; first = c.lay_over.ensures.first })

pub returns-clause-samples : goal.returns-clause-samples
returns-clause-samples g c all =
    laid-samples c.args.tile.now.place.col c.deref.result.now c.args.out.now c.lay_over.new.row c.lay_over.result (omega arith)
    (All-same IsSample c.deref.result.now c.next_row-answer.new.out.items c.deref.ensures.value c.next_row-answer.ensures.samples) all c.lay_over.ensures
