use Rattle.drain_maker.proofs.Names.{Err, map, refl, ap, subst, elevation_at, tiles_of, TilesAgree, IsElevation, IsFirstSeam}
use Rattle.drain_maker.proofs.MosaicAnswers.{fault_refused}
use Rattle.drain_maker.proofs.mosaic.elevation_of.Goals as goal

pub returns-in-Ok-clause-elevation : goal.returns-in-Ok-clause-elevation
returns-in-Ok-clause-elevation c =
    let t = c.args.layout.now in
    let e = c.in-Ok.elevation in
    record {
      shape = c.in-Ok.ensures.shape;
      agree = subst (λ s. TilesAgree t (tiles_of t.corners (map (λ tile. tile.items) s))) c.deref.ensures.value (c.in-Ok.ensures.agree refl);
      values = subst (λ s. IsElevation t (tiles_of t.corners (map (λ tile. tile.items) s)) (elevation_at e)) c.deref.ensures.value c.in-Ok.ensures.values;
    }

pub returns-clause-refusal : goal.returns-clause-refusal
returns-clause-refusal c =
    let t = c.args.layout.now in
    fault_refused t (map (λ tile. tile.items) c.args.samples.items) c.in-Err.fault c.refusal_of.result c.refusal_of.ensures.refusal
    (λ cell is. subst (λ s. IsFirstSeam t (tiles_of t.corners (map (λ tile. tile.items) s)) cell) c.deref.ensures.value (c.in-Err.ensures.seam cell (ap (λ fault. Err fault) is)))
    (λ is. subst (λ s. TilesAgree t (tiles_of t.corners (map (λ tile. tile.items) s))) c.deref.ensures.value (c.in-Err.ensures.wants_memory (ap (λ fault. Err fault) is)))
