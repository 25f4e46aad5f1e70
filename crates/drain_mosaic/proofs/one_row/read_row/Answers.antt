use Rattle.drain_mosaic.proofs.Names.{◌≡◌, ◌+◌, List, length, get_or, Result, Ok, Err, IfOk, arith, refl, sym, ap, ◌∙◌, subst, ReadFailed, IsSample, ArePlacedWithin, IsPlacedAt, IsPlacedWithin, IsRowLaid, Stream}
use Rattle.std.proofs.Common.{None}
use Rattle.drain_mosaic.proofs.Places.{all-one, one-stream}
use Rattle.drain_mosaic.proofs.Calls.{gone-fault, gone-more, gone-start, gone-well}
use Rattle.drain_mosaic.proofs.Lent.{all_back, as_long, lent, lent-voids}
use Rattle.drain_mosaic.proofs.one_row.read_row.Goals as goal

-- what doesn't depend on the answer
on_ok : {T E : Type 0} (r : Result T E) {P : Type 0} → P → IfOk r (λ x. P)
on_ok (Ok x) p = p
on_ok (Err e) p = tt

-- the only tile
pub returns-in-Err-clause-within : goal.returns-in-Err-clause-within
returns-in-Err-clause-within g c rows within =
    let e = c.if-side-cols.true in
    let tile = get_or c.args.tiles.now 0 c.index-tiles-0.result in
    all-one (IsPlacedWithin c.args.side rows c.args.cols) c.args.tiles.now c.read_alone.new.tile (omega arith)
    (subst (λ n. IsPlacedWithin c.args.side rows n c.read_alone.new.tile) e
    (c.read_alone.ensures.within rows (subst (λ n. IsPlacedWithin c.args.side rows n tile) (sym e) (within 0 c.index-tiles-0.result (omega arith)))))

pub returns-then-side-cols-clause-within : goal.returns-then-side-cols-clause-within
returns-then-side-cols-clause-within g c rows within =
    let e = c.if-side-cols.true in
    let tile = get_or c.args.tiles.now 0 c.index-tiles-0.result in
    all-one (IsPlacedWithin c.args.side rows c.args.cols) c.args.tiles.now c.read_alone.new.tile (omega arith)
    (subst (λ n. IsPlacedWithin c.args.side rows n c.read_alone.new.tile) e
    (c.read_alone.ensures.within rows (subst (λ n. IsPlacedWithin c.args.side rows n tile) (sym e) (within 0 c.index-tiles-0.result (omega arith)))))

pub returns-in-Err-clause-read : goal.returns-in-Err-clause-read
returns-in-Err-clause-read g c =
    gone-fault g.row.R.Denot g.R.ByteSource.bytes_left g.R.ByteSource.counts _ c.in-Err.fault (c.read_alone.result ≡ Err ReadFailed) (λ e. cc) (λ e. cc) 0 c.args.tiles.now c.args.tiles.now c.args.from.now c.args.from.now
    c.index-tiles-0.result c.read_alone.new.tile c.index-from-0.result (record { name = (get_or c.args.from.now 0 c.index-from-0.result).name; body = c.read_alone.new.from }) (omega arith) refl refl c.requires.named
    (gone-start g.row.R.Denot g.R.ByteSource.bytes_left g.R.ByteSource.counts c.args.tiles.now c.args.from.now) c.read_alone.ensures.read

pub returns-then-side-cols-clause-read : goal.returns-then-side-cols-clause-read
returns-then-side-cols-clause-read g c =
    gone-well g.row.R.Denot g.R.ByteSource.bytes_left g.R.ByteSource.counts 1 c.args.tiles.now _ c.args.from.now _ _ (λ e. cc)
    (gone-more g.row.R.Denot g.R.ByteSource.bytes_left g.R.ByteSource.counts 0 c.args.tiles.now c.args.tiles.now c.args.from.now c.args.from.now
    c.index-tiles-0.result c.read_alone.new.tile c.index-from-0.result (record { name = (get_or c.args.from.now 0 c.index-from-0.result).name; body = c.read_alone.new.from })
    (c.read_alone.result ≡ Err ReadFailed) (λ e. cc) (omega arith) refl refl c.requires.named
    (gone-start g.row.R.Denot g.R.ByteSource.bytes_left g.R.ByteSource.counts c.args.tiles.now c.args.from.now) c.read_alone.ensures.read)

pub returns-then-side-cols-clause-at : goal.returns-then-side-cols-clause-at
returns-then-side-cols-clause-at g c all =
    all-one (IsPlacedAt c.args.side (c.args.row + 1)) c.args.tiles.now c.read_alone.new.tile (omega arith) (c.in_default.ensures.at (all 0 c.index-tiles-0.result (omega arith)))

pub returns-then-side-cols-clause-laid : goal.returns-then-side-cols-clause-laid
returns-then-side-cols-clause-laid g c told =
    subst (λ (ss : List Stream). IsRowLaid c.args.side c.args.row ss c.read_alone.new.out.items None)
    (sym (one-stream g.row.R.Denot g.R.ByteSource.bytes_left c.args.tiles.now c.args.from.now c.index-tiles-0.result c.index-from-0.result (omega arith) c.requires.named))
    (c.in_default.ensures.laid (told 0 c.index-from-0.result (omega arith)))

-- the tiles laid over voids
pub returns-in-Err-put_voids-clause-read : goal.returns-in-Err-put_voids-clause-read
returns-in-Err-put_voids-clause-read g c =
    gone-well g.row.R.Denot g.R.ByteSource.bytes_left g.R.ByteSource.counts 0 c.args.tiles.now c.args.tiles.now c.args.from.now c.args.from.now _ (λ e. let is = c.in-Err-put_voids.ensures.fault in cc)
    (gone-start g.row.R.Denot g.R.ByteSource.bytes_left g.R.ByteSource.counts c.args.tiles.now c.args.from.now)

pub returns-clause-within : goal.returns-clause-within
returns-clause-within g c rows within =
    let wide : length c.deref_mut.result.now ≡ c.args.cols = ap length c.deref_mut.ensures.value ∙ c.in_default-put_voids.ensures.long in
    subst (λ n. ArePlacedWithin c.args.side rows n c.lay_tiles.new.tiles) wide (c.lay_tiles.ensures.within rows (subst (λ n. ArePlacedWithin c.args.side rows n c.args.tiles.now) (sym wide) within))

pub returns-clause-long : goal.returns-clause-long
returns-clause-long g c =
    on_ok c.lay_tiles.result (as_long (lent c.deref_mut.ensures.value c.deref_mut.ensures.len c.lay_tiles.auto.out) ∙ c.in_default-put_voids.ensures.long)

pub returns-clause-samples : goal.returns-clause-samples
returns-clause-samples g c =
    on_ok c.lay_tiles.result
    (all_back IsSample (lent c.deref_mut.ensures.value c.deref_mut.ensures.len c.lay_tiles.auto.out) (c.lay_tiles.ensures.samples (lent-voids c.deref_mut.ensures.value c.in_default-put_voids.ensures.voids)))
