use Rattle.drain_mosaic.proofs.Names.{refl, ◌≡◌, arith, sym, ap, ◌∙◌, get_or, set, Err, below_more, Cell, Stream, end_stream, Coming, HasEnded, IsPlacedAt, IsPlacedWithin, stop_of, PlacedRows, ReadFailed}
use Rattle.std.proofs.Common.{None, get_or-set_other, get_or-set_same}
use Rattle.drain_mosaic.proofs.Places.{kept, names-kept}
use Rattle.drain_mosaic.proofs.Calls.{ends-more, streams-next, gone-start, gone-more, gone-fault, gone-well}
use Rattle.drain_mosaic.proofs.TileCalls.{tile-goes, ended-here, goes-unfailed, stays-no_row, stop-is}
use Rattle.drain_mosaic.proofs.placed_rows.read_ends.Goals as goal

abbrev the_stream : Cell → Coming → Stream
the_stream place coming = record { place = place; coming = coming }

pub loop-i-init : goal.loop-i-init
loop-i-init g c = record {
  within = λ side rows cols within. within;
  names = refl;
  gone = gone-start _ _ _ c.args.tiles.now c.args.from.now;
  ended = λ side rows cols within all k h. absurd (omega (arith, h));
  goes_on = λ told k h. absurd (omega (arith, h));
}

pub returns-in-Some-clause-within : goal.returns-in-Some-clause-within
returns-in-Some-clause-within g c side rows cols within =
    kept c.loop-i.tiles c.loop-i.i c.index-tiles-i.result c.next_row-answer.new.self side rows cols (omega arith) c.next_row-answer.ensures.keeps_len (c.loop-i.invariant.within side rows cols within)

pub returns-in-Some-clause-read : goal.returns-in-Some-clause-read
returns-in-Some-clause-read g c =
    let answer = c.next_row-answer.result in
    let is : answer ≡ Err c.in-Some.fault = stop-is answer c.in-Some.fault (sym c.stop_of.ensures ∙ c.in-Some.is) in
    gone-fault g.row.R.Denot g.R.ByteSource.bytes_left g.R.ByteSource.counts (Unit {0}) c.in-Some.fault (answer ≡ Err ReadFailed) (λ e. cc) (λ e. cc) c.loop-i.i c.args.tiles.now c.loop-i.tiles c.args.from.now c.loop-i.from
    c.index-tiles-i.result (record { place = (get_or c.loop-i.tiles c.loop-i.i c.index-tiles-i.result).place; rows = c.next_row-answer.new.self })
    c.index-from-i.result (record { name = (get_or c.loop-i.from c.loop-i.i c.index-from-i.result).name; body = c.next_row-answer.new.from }) (omega arith) (omega arith) (omega arith) (omega arith) c.loop-i.invariant.gone (record { within = c.next_row-answer.ensures.within; faults = c.next_row-answer.ensures.faults })

pub loop-i-preserved : goal.loop-i-preserved
loop-i-preserved g c =
    let answer = c.next_row-answer.result in
    let goes : stop_of answer ≡ None = sym c.stop_of.ensures ∙ c.in_default.is in
    let tile : PlacedRows = get_or c.loop-i.tiles c.loop-i.i c.index-tiles-i.result in
    let q : PlacedRows = record { place = tile.place; rows = c.next_row-answer.new.self } in
    record {
      within = λ side rows cols within. kept c.loop-i.tiles c.loop-i.i c.index-tiles-i.result c.next_row-answer.new.self side rows cols (omega arith) c.next_row-answer.ensures.keeps_len (c.loop-i.invariant.within side rows cols within);
      names = names-kept c.loop-i.from c.loop-i.i c.index-from-i.result c.next_row-answer.new.from (omega arith) ∙ c.loop-i.invariant.names;
      gone = gone-more g.row.R.Denot g.R.ByteSource.bytes_left g.R.ByteSource.counts c.loop-i.i c.args.tiles.now c.loop-i.tiles c.args.from.now c.loop-i.from
          c.index-tiles-i.result q c.index-from-i.result (record { name = (get_or c.loop-i.from c.loop-i.i c.index-from-i.result).name; body = c.next_row-answer.new.from })
          (answer ≡ Err ReadFailed) (goes-unfailed answer goes) (omega arith) (omega arith) (omega arith) (omega arith) c.loop-i.invariant.gone
          (record { within = c.next_row-answer.ensures.within; faults = c.next_row-answer.ensures.faults });
      ended = λ side rows cols within all. below_more (λ k. (p : PlacedRows) → HasEnded (get_or (set c.loop-i.tiles c.loop-i.i q) k p)) c.loop-i.i
          (λ k less p. let e1 : get_or (set c.loop-i.tiles c.loop-i.i q) k p ≡ get_or c.loop-i.tiles k p = get_or-set_other c.loop-i.tiles c.loop-i.i k q p (omega (arith, less)) in rw e1 (c.loop-i.invariant.ended side rows cols within all k less p))
          (λ p.
          let e1 : get_or (set c.loop-i.tiles c.loop-i.i q) c.loop-i.i p ≡ q = get_or-set_same c.loop-i.tiles c.loop-i.i q p (omega arith) in
          let e2 : tile ≡ get_or c.args.tiles.now c.loop-i.i c.index-tiles-i.result = c.loop-i.invariant.gone.rest c.loop-i.i c.index-tiles-i.result (omega arith) in
          let here : IsPlacedAt side rows tile = rw e2 (all c.loop-i.i c.index-tiles-i.result (omega arith)) in
          let there : IsPlacedWithin side rows cols tile = rw e2 (within c.loop-i.i c.index-tiles-i.result (omega arith)) in
          rw e1 (ended-here side rows tile c.next_row-answer.new.self answer goes c.next_row-answer.ensures.after c.next_row-answer.ensures.left (stays-no_row tile.rows.progress answer c.next_row-answer.ensures.stays) there.above here));
      goes_on = ends-more g.row.R.Denot g.R.ByteSource.bytes_left g.R.ByteSource.counts c.loop-i.i c.args.tiles.now c.loop-i.tiles c.args.from.now c.loop-i.from c.index-tiles-i.result q c.index-from-i.result
          (record { name = (get_or c.loop-i.from c.loop-i.i c.index-from-i.result).name; body = c.next_row-answer.new.from }) (omega arith) (omega arith) (omega arith) (omega arith)
          (λ told. ap (λ (x : Coming). the_stream tile.place x) (tile-goes tile.rows c.next_row-answer.new.self (g.R.ByteSource.bytes_left (get_or c.loop-i.from c.loop-i.i c.index-from-i.result).body) (g.R.ByteSource.bytes_left c.next_row-answer.new.from) answer c.next_row-answer.new.out.items
          goes c.next_row-answer.ensures.after c.next_row-answer.ensures.already c.next_row-answer.ensures.empty c.next_row-answer.ensures.rows told).0)
          c.loop-i.invariant.gone c.loop-i.invariant.goes_on;
    }

pub returns-clause-goes_on : goal.returns-clause-goes_on
returns-clause-goes_on g c told =
    streams-next g.row.R.Denot g.R.ByteSource.bytes_left g.R.ByteSource.counts end_stream c.args.tiles.now c.loop-i.tiles c.args.from.now c.loop-i.from (omega arith) (omega arith) (omega arith)
    (λ k less p t. c.loop-i.invariant.goes_on told k (omega (arith, less)) p t)

pub returns-clause-read : goal.returns-clause-read
returns-clause-read g c = gone-well _ _ _ c.loop-i.i c.args.tiles.now c.loop-i.tiles c.args.from.now c.loop-i.from _ (λ e. cc) c.loop-i.invariant.gone

pub returns-clause-ended : goal.returns-clause-ended
returns-clause-ended g c side rows cols within all k p inside = c.loop-i.invariant.ended side rows cols within all k (omega (arith, inside)) p

pub returns-in-Some-clause-names : goal.returns-in-Some-clause-names
returns-in-Some-clause-names g c = names-kept c.loop-i.from c.loop-i.i c.index-from-i.result c.next_row-answer.new.from (omega arith) ∙ c.loop-i.invariant.names
