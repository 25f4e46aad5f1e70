use Rattle.drain_mosaic.proofs.Places.{names-kept}
use Rattle.drain_mosaic.proofs.Names.{refl, ◌≡◌, ◌<◌, arith, sym, subst, ◌∙◌, get_or, take, length, List, MatchOption, Err, take_all, All-set, Stream, next_stream, IsRowLaid, IsPlacedWithin, streams_of, PlacedRows, ReadFailed}
use Rattle.drain_mosaic.proofs.Calls.{gone-start, gone-more, gone-fault, gone-well, found-more, laying-start, laying-more, streams-next, streams-len}
use Rattle.drain_mosaic.proofs.placed_rows.lay_tiles.Goals as goal

pub loop-i-init : goal.loop-i-init
loop-i-init g c = record {
  within = λ rows within. within;
  samples = λ all. all;
  found = tt;
  names = refl;
  gone = gone-start _ _ _ c.args.tiles.now c.args.from.now;
  laying = laying-start _ _ g.R.ByteSource.counts c.args.side c.args.row c.args.tiles.now c.args.from.now c.args.out.now;
}

pub lay_tile-requires : goal.lay_tile-requires
lay_tile-requires g c =
    let r = c.requires.within in
    let tile : PlacedRows = get_or c.loop-i.tiles c.loop-i.i c.index-tiles-i.result in
    let wide : length c.loop-i.out ≡ length c.args.out.now = omega arith in
    record { within = (r.0, subst (λ n. IsPlacedWithin c.args.side r.0 n tile) (sym wide) (c.loop-i.invariant.within r.0 r.1 c.loop-i.i c.index-tiles-i.result (omega arith))) }

pub returns-in-Err-clause-within : goal.returns-in-Err-clause-within
returns-in-Err-clause-within g c rows within =
    let tile : PlacedRows = get_or c.loop-i.tiles c.loop-i.i c.index-tiles-i.result in
    let wide : length c.loop-i.out ≡ length c.args.out.now = omega arith in
    let before = c.loop-i.invariant.within rows within in
    All-set (IsPlacedWithin c.args.side rows (length c.args.out.now)) c.loop-i.tiles c.loop-i.i c.lay_tile.new.tile
    (subst (λ n. IsPlacedWithin c.args.side rows n c.lay_tile.new.tile) wide (c.lay_tile.ensures.within rows (subst (λ n. IsPlacedWithin c.args.side rows n tile) (sym wide) (before c.loop-i.i c.index-tiles-i.result (omega arith))))) before

pub returns-in-Err-clause-read : goal.returns-in-Err-clause-read
returns-in-Err-clause-read g c =
    gone-fault g.row.R.Denot g.R.ByteSource.bytes_left g.R.ByteSource.counts _ c.in-Err.fault (c.lay_tile.result ≡ Err ReadFailed) (λ e. cc) (λ e. cc) c.loop-i.i c.args.tiles.now c.loop-i.tiles c.args.from.now c.loop-i.from
    c.index-tiles-i.result c.lay_tile.new.tile c.index-from-i.result (record { name = (get_or c.loop-i.from c.loop-i.i c.index-from-i.result).name; body = c.lay_tile.new.from }) (omega arith) (omega arith) (omega arith) (omega arith) c.loop-i.invariant.gone c.lay_tile.ensures.read

pub loop-i-preserved : goal.loop-i-preserved
loop-i-preserved g c =
    let tile : PlacedRows = get_or c.loop-i.tiles c.loop-i.i c.index-tiles-i.result in
    let wide : length c.loop-i.out ≡ length c.args.out.now = omega arith in
    record {
      within = λ rows within.
          let before = c.loop-i.invariant.within rows within in
          All-set (IsPlacedWithin c.args.side rows (length c.args.out.now)) c.loop-i.tiles c.loop-i.i c.lay_tile.new.tile
          (subst (λ n. IsPlacedWithin c.args.side rows n c.lay_tile.new.tile) wide (c.lay_tile.ensures.within rows (subst (λ n. IsPlacedWithin c.args.side rows n tile) (sym wide) (before c.loop-i.i c.index-tiles-i.result (omega arith))))) before;
      samples = λ all. c.lay_tile.ensures.samples (c.loop-i.invariant.samples all);
      found = found-more (length c.args.out.now) c.loop-i.seam c.in-Ok.found c.first_of-seam.result c.first_of-seam.ensures c.loop-i.invariant.found (subst (λ n. MatchOption c.in-Ok.found (Unit {0}) (λ col. col < n)) wide c.in-Ok.ensures.found);
      names = names-kept c.loop-i.from c.loop-i.i c.index-from-i.result c.lay_tile.new.from (omega arith) ∙ c.loop-i.invariant.names;
      gone = gone-more g.row.R.Denot g.R.ByteSource.bytes_left g.R.ByteSource.counts c.loop-i.i c.args.tiles.now c.loop-i.tiles c.args.from.now c.loop-i.from
          c.index-tiles-i.result c.lay_tile.new.tile c.index-from-i.result (record { name = (get_or c.loop-i.from c.loop-i.i c.index-from-i.result).name; body = c.lay_tile.new.from })
          (c.lay_tile.result ≡ Err ReadFailed) (λ e. cc) (omega arith) (omega arith) (omega arith) (omega arith) c.loop-i.invariant.gone c.lay_tile.ensures.read;
      laying = laying-more g.row.R.Denot g.R.ByteSource.bytes_left g.R.ByteSource.counts c.args.side c.args.row c.loop-i.i c.args.tiles.now c.loop-i.tiles c.args.from.now c.loop-i.from c.args.out.now c.loop-i.out c.lay_tile.new.out
          c.loop-i.seam c.in-Ok.found c.first_of-seam.result c.index-tiles-i.result c.lay_tile.new.tile c.index-from-i.result (record { name = (get_or c.loop-i.from c.loop-i.i c.index-from-i.result).name; body = c.lay_tile.new.from }) (omega arith) (omega arith) (omega arith) (omega arith) (omega arith) c.first_of-seam.ensures
          c.in-Ok.ensures.at c.in-Ok.ensures.goes_on c.in-Ok.ensures.laid c.loop-i.invariant.gone c.loop-i.invariant.laying;
    }

pub returns-clause-at : goal.returns-clause-at
returns-clause-at g c all k p inside = c.loop-i.invariant.laying.at all k (omega (arith, inside)) p

pub returns-clause-read : goal.returns-clause-read
returns-clause-read g c = gone-well g.row.R.Denot g.R.ByteSource.bytes_left g.R.ByteSource.counts c.loop-i.i c.args.tiles.now c.loop-i.tiles c.args.from.now c.loop-i.from _ (λ e. cc) c.loop-i.invariant.gone

pub returns-clause-goes_on : goal.returns-clause-goes_on
returns-clause-goes_on g c told =
    streams-next g.row.R.Denot g.R.ByteSource.bytes_left g.R.ByteSource.counts (next_stream c.args.side c.args.row) c.args.tiles.now c.loop-i.tiles c.args.from.now c.loop-i.from (omega arith) (omega arith) (omega arith)
    (λ k less p t. c.loop-i.invariant.laying.goes_on told k (omega (arith, less)) p t)

pub returns-clause-laid : goal.returns-clause-laid
returns-clause-laid g c told voids =
    let all = streams_of g.R.ByteSource.bytes_left c.args.tiles.now c.args.from.now in
    let long = streams-len g.row.R.Denot g.R.ByteSource.bytes_left g.R.ByteSource.counts c.args.tiles.now c.args.from.now c.requires.named in
    let whole : take c.loop-i.i all ≡ all = take_all c.loop-i.i all (omega (arith, long)) in
    subst (λ (ss : List Stream). IsRowLaid c.args.side c.args.row ss c.loop-i.out c.loop-i.seam) whole (c.loop-i.invariant.laying.laid told voids)

pub returns-in-Err-clause-names : goal.returns-in-Err-clause-names
returns-in-Err-clause-names g c = names-kept c.loop-i.from c.loop-i.i c.index-from-i.result c.lay_tile.new.from (omega arith) ∙ c.loop-i.invariant.names

pub returns-in-Err-clause-samples : goal.returns-in-Err-clause-samples
returns-in-Err-clause-samples g c all = c.lay_tile.ensures.samples (c.loop-i.invariant.samples all)
