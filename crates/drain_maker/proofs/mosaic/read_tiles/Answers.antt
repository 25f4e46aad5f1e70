use Rattle.drain_maker.proofs.Names.{◌≡◌, ◌++◌, ◌∷◌, [], map, slice_index_or, Err, arith, refl, rules, ap, ◌∙◌, map-append, ReadFailed, SomeReadFails-iff}
use Rattle.drain_answer.specs.declared.refusal.Refusal.TheVariants.{OutOfMemory}
use Rattle.drain_maker.proofs.TileLists.{so_far-none, so_far-more, so_far-stop, so_far-all}
use Rattle.drain_maker.proofs.mosaic.read_tiles.Goals as goal

pub loop-i-init : goal.loop-i-init
loop-i-init g c = rw c.new-samples.ensures.items (so_far-none g.R.ByteSource.bytes_left g.R.ByteSource.counts c.side-side.result c.args.tiles.now)

pub loop-i-preserved : goal.loop-i-preserved
loop-i-preserved g c =
    let one = c.in-Ok.ensures in
    let pushed : c.push.new.self.items ≡ c.loop-i.samples.items ++ c.in-Ok.came ∷ [] = search rules in
    rw (pushed, map-append) (so_far-more g.R.ByteSource.bytes_left g.R.ByteSource.counts c.side-side.result c.loop-i.i c.args.tiles.now c.loop-i.tiles
    (map (λ tile. tile.items) c.loop-i.samples.items) c.index-tiles-i.result
    (record { name = (slice_index_or c.loop-i.tiles c.loop-i.i c.index-tiles-i.result).name; body = c.read_one.new.body })
    c.in-Ok.came.items _ c.loop-i.invariant (omega (arith, c.loop-i.auto.tiles, c.loop-i-test.true))
    (record { faults = one.faults; within = one.within; name = refl }) (λ failed. cc) one.samples one.counted)

pub returns-in-Err : goal.returns-in-Err
returns-in-Err g c =
    let one = c.in-Err.ensures in
    let stop = so_far-stop g.R.ByteSource.bytes_left g.R.ByteSource.counts c.side-side.result c.loop-i.i c.args.layout.now.corners c.args.tiles.now c.loop-i.tiles
    (map (λ tile. tile.items) c.loop-i.samples.items) c.index-tiles-i.result
    (record { name = (slice_index_or c.loop-i.tiles c.loop-i.i c.index-tiles-i.result).name; body = c.read_one.new.body })
    c.name.result c.in-Err.refusal _ c.loop-i.invariant (omega (arith, c.loop-i.auto.tiles, c.loop-i-test.true))
    (record { faults = one.faults; within = one.within; name = refl }) c.name.ensures one.refusal in
    record {
      samples = tt;
      counted = tt;
      refusal = rw c.side-side.ensures.side at stop.refused;
      of_bodies = one.of_bodies;
      faults = SomeReadFails-iff ((λ e. let same : c.in-Err.refusal ≡ ReadFailed = cc in ap Err same), (λ e. let same : c.in-Err.refusal ≡ ReadFailed = cc in ap Err same)) stop.read.faults;
      within = rw c.side-side.ensures.side at stop.read.within;
      names = stop.read.names;
    }

pub returns-then-is_err : goal.returns-then-is_err
returns-then-is_err g c =
    let one = c.in-Ok.ensures in
    let stop = so_far-stop g.R.ByteSource.bytes_left g.R.ByteSource.counts c.side-side.result c.loop-i.i c.args.layout.now.corners c.args.tiles.now c.loop-i.tiles
    (map (λ tile. tile.items) c.loop-i.samples.items) c.index-tiles-i.result
    (record { name = (slice_index_or c.loop-i.tiles c.loop-i.i c.index-tiles-i.result).name; body = c.read_one.new.body })
    c.name.result OutOfMemory _ c.loop-i.invariant (omega (arith, c.loop-i.auto.tiles, c.loop-i-test.true))
    (record { faults = one.faults; within = one.within; name = refl }) c.name.ensures (λ bytes is. tt) in
    record {
      samples = tt;
      counted = tt;
      refusal = λ bodies are. tt;
      of_bodies = tt;
      faults = SomeReadFails-iff ((λ e. cc), (λ e. cc)) stop.read.faults;
      within = rw c.side-side.ensures.side at stop.read.within;
      names = stop.read.names;
    }

pub returns : goal.returns
returns g c =
    let all = so_far-all g.R.ByteSource.bytes_left g.R.ByteSource.counts c.side-side.result c.loop-i.i c.args.tiles.now c.loop-i.tiles
    (map (λ tile. tile.items) c.loop-i.samples.items) c.loop-i.invariant (omega (arith, c.loop-i.auto.tiles, c.loop-i.auto.i-end, c.loop-i-test.false)) in
    record {
      samples = rw c.side-side.ensures.side at all.samples_are;
      counted = record { named = all.counted ∙ c.requires; whole = rw c.side-side.ensures.side at all.whole };
      refusal = tt;
      of_bodies = tt;
      faults = SomeReadFails-iff ((λ e. absurd e), (λ e. cc)) all.read.faults;
      within = rw c.side-side.ensures.side at all.read.within;
      names = all.read.names;
    }
