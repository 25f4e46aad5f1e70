use Rattle.drain_maker.proofs.Names.{length, ap, sym, ◌∙◌, tile_length, samples_of}
use Rattle.drain_maker.proofs.MosaicAnswers.{length-is, tile-samples}
use Rattle.drain_maker.proofs.mosaic.read_one.Goals as goal

pub returns-in-Ok-read_tile-clause-samples : goal.returns-in-Ok-read_tile-clause-samples
returns-in-Ok-read_tile-clause-samples g c bytes is =
    let bytes_left = g.R.ByteSource.bytes_left in
    let came = c.deref.ensures.value in
    let whole = length-is (length c.deref.result.now) (tile_length c.args.side) (λ other. let bad = c.read_tile.ensures.bad_length.1 (c.requires, other) in cc) in
    tile-samples c.args.side c.tile_length.result (bytes_left c.args.body.now) (bytes_left c.read_body.new.from) c.in-Ok.bytes.items c.in-Ok-read_tile.samples.items c.tile_length.ensures c.in-Ok.ensures.bytes
    (ap length (sym came) ∙ whole) (c.in-Ok-read_tile.ensures.samples ∙ ap samples_of came) bytes is
