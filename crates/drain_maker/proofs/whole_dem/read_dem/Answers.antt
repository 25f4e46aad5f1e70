use Rattle.drain_maker.proofs.Names.{◌≡◌, Err, ap, map, rules, err_from_is_err_and, SomeReadFails-iff, SomeReadFails-none, ReadFailed, dem_devices, header_reads_none, refused_text}
use Rattle.drain_maker.proofs.DemReading.{body_refused, dem_read, header_refused, one_fails, told_header, told_one}
use Rattle.drain_maker.proofs.whole_dem.read_dem.Goals as goal

pub returns-in_err-header-clause-refusal : goal.returns-in_err-header-clause-refusal
returns-in_err-header-clause-refusal g c =
    let is = err_from_is_err_and c.from_residual.result c.from_residual.ensures.1 in
    rw (is.1, is.2) (λ d tell. header_refused d _ (refused_text g.R.ByteSource.bytes_left c.args.dem.now _ d _ tell c.in_err-header.ensures.refusal))

pub returns-in_err-header-clause-faults : goal.returns-in_err-header-clause-faults
returns-in_err-header-clause-faults g c =
    let is = err_from_is_err_and c.from_residual.result c.from_residual.ensures.1 in
    rw (is.1, is.2) (SomeReadFails-none (map g.R.ByteSource.counts (dem_devices c.args.dem.now)) (header_reads_none _ _ c.in_err-header.ensures.refusal))

pub returns-in_err-raster-clause-refusal : goal.returns-in_err-raster-clause-refusal
returns-in_err-raster-clause-refusal g c =
    let is = err_from_is_err_and c.from_residual-in_err-raster.result c.from_residual-in_err-raster.ensures.1 in
    rw (is.1, is.2) (λ d tell.
    let one = told_one g.R.ByteSource.bytes_left g.R.ByteSource.counts c.args.dem.now _ d tell in
    body_refused d c.in_ok-header.header _ (told_header g.R.ByteSource.bytes_left g.R.ByteSource.counts c.in_ok-header.header c.args.dem.now _ d tell c.in_ok-header.ensures.header)
    (c.in_err-raster.ensures.refusal d.body one.1))

pub returns-in_err-raster-clause-faults : goal.returns-in_err-raster-clause-faults
returns-in_err-raster-clause-faults g c =
    let is = err_from_is_err_and c.from_residual-in_err-raster.result c.from_residual-in_err-raster.ensures.1 in
    rw (is.1, is.2) (SomeReadFails-iff (λ is. (let same : c.in_err-raster.field-0.0 ≡ ReadFailed = cc in ap Err same), λ is. (let same : c.in_err-raster.field-0.0 ≡ ReadFailed = cc in ap Err same))
    (one_fails g.R.ByteSource.bytes_left g.R.ByteSource.counts c.args.dem.now _ c.read_pixels.new.body (search rules) c.in_err-raster.ensures.faults))

pub returns-clause-dem : goal.returns-clause-dem
returns-clause-dem g c = λ d tell.
    let one = told_one g.R.ByteSource.bytes_left g.R.ByteSource.counts c.args.dem.now _ d tell in
    dem_read d c.in_ok-header.header c.in_ok-raster.raster
    (told_header g.R.ByteSource.bytes_left g.R.ByteSource.counts c.in_ok-header.header c.args.dem.now _ d tell c.in_ok-header.ensures.header)
    c.in_ok-raster.ensures.fits c.in_ok-raster.ensures.nodata (c.in_ok-raster.ensures.raster d.body one.1)

pub returns-clause-faults : goal.returns-clause-faults
returns-clause-faults g c =
    SomeReadFails-iff (λ no. cc, λ no. cc)
    (one_fails g.R.ByteSource.bytes_left g.R.ByteSource.counts c.args.dem.now _ c.read_pixels.new.body (search rules) c.in_ok-raster.ensures.faults)
