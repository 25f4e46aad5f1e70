use Rattle.drain_maker.proofs.Names.{map, err_from_is_err_and, SomeReadFails-none, tile_devices, named_each, layout_reads_none}
use Rattle.drain_verdict.proofs.AuditDevices.{tiles_take_none}
use Rattle.drain_maker.proofs.MosaicAnswers.{layout_told, laid_out, tile_told, seam_told, mosaic_told}
use Rattle.drain_maker.proofs.mosaic.read_mosaic.Goals as goal

pub returns-in_err-layout-clause-refusal : goal.returns-in_err-layout-clause-refusal
returns-in_err-layout-clause-refusal g c =
    let told = err_from_is_err_and c.from_residual.result c.from_residual.ensures.1 in
    rw (told.1, told.2) (λ inputs tell.
    layout_told c.one_name.ensures g.R.ByteSource.bytes_left c.args.side c.args.tiles.now inputs _ tell c.in_err-layout.ensures.refusal)

pub returns-in_err-layout-clause-within : goal.returns-in_err-layout-clause-within
returns-in_err-layout-clause-within g c = tiles_take_none g.R.ByteSource.bytes_left c.args.side c.args.tiles.now

pub returns-in_err-layout-clause-faults : goal.returns-in_err-layout-clause-faults
returns-in_err-layout-clause-faults g c =
    let told = err_from_is_err_and c.from_residual.result c.from_residual.ensures.1 in
    rw (told.1, told.2) (SomeReadFails-none (map g.R.ByteSource.counts (tile_devices c.args.tiles.now)) (layout_reads_none _ _ _ c.in_err-layout.ensures.refusal))

pub read_tiles-requires : goal.read_tiles-requires
read_tiles-requires g c = named_each c.args.tiles.now _ c.in_ok-layout.ensures.layout.named

pub returns-in_err-samples-clause-refusal : goal.returns-in_err-samples-clause-refusal
returns-in_err-samples-clause-refusal g c =
    let told = err_from_is_err_and c.from_residual-in_err-samples.result c.from_residual-in_err-samples.ensures.1 in
    rw (told.1, told.2) (λ inputs tell.
    let laid = laid_out c.one_name.ensures g.R.ByteSource.bytes_left c.args.side c.args.tiles.now inputs c.in_ok-layout.layout tell c.in_ok-layout.ensures.layout in
    tile_told inputs c.in_ok-layout.layout _ laid.0 (c.in_err-samples.ensures.refusal inputs.tiles tell.tiles_are) laid.1)

pub returns-in_err-samples-clause-within : goal.returns-in_err-samples-clause-within
returns-in_err-samples-clause-within g c = rw c.in_ok-layout.ensures.layout.side_is at c.in_err-samples.ensures.within

pub returns-in_err-elevation-clause-refusal : goal.returns-in_err-elevation-clause-refusal
returns-in_err-elevation-clause-refusal g c =
    let told = err_from_is_err_and c.from_residual-in_err-elevation.result c.from_residual-in_err-elevation.ensures.1 in
    rw (told.1, told.2) (λ inputs tell.
    let laid = laid_out c.one_name.ensures g.R.ByteSource.bytes_left c.args.side c.args.tiles.now inputs c.in_ok-layout.layout tell c.in_ok-layout.ensures.layout in
    seam_told inputs c.in_ok-layout.layout (map (λ tile. tile.items) c.in_ok-samples.samples.items) _ laid.0
    (c.in_ok-samples.ensures.samples inputs.tiles tell.tiles_are) c.in_err-elevation.ensures.refusal laid.1)

pub returns-in_err-elevation-clause-within : goal.returns-in_err-elevation-clause-within
returns-in_err-elevation-clause-within g c = rw c.in_ok-layout.ensures.layout.side_is at c.in_ok-samples.ensures.within

pub returns-clause-mosaic : goal.returns-clause-mosaic
returns-clause-mosaic g c = λ inputs tell.
    let laid = laid_out c.one_name.ensures g.R.ByteSource.bytes_left c.args.side c.args.tiles.now inputs c.in_ok-layout.layout tell c.in_ok-layout.ensures.layout in
    mosaic_told c.agreement_gives_elevation.ensures inputs c.in_ok-layout.layout (map (λ tile. tile.items) c.in_ok-samples.samples.items) c.in_ok-elevation.elevation laid.0
    (c.in_ok-samples.ensures.samples inputs.tiles tell.tiles_are) c.in_ok-elevation.ensures.elevation laid.1

pub returns-clause-within : goal.returns-clause-within
returns-clause-within g c = rw c.in_ok-layout.ensures.layout.side_is at c.in_ok-samples.ensures.within
