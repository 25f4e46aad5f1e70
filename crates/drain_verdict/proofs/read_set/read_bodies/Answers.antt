use Rattle.drain_verdict.proofs.Names.{◌≡◌, subst, sym, err_from_is_err_and, IfOk-weaker, HeightKind, ReadFailed, on-ok, as_read, IsListingOf, Listing}
use Rattle.drain_verdict.proofs.AuditDevices.{devices_none}
use Rattle.drain_verdict.proofs.RowDevices.{bodies_taken, devices_fail}
use Rattle.drain_verdict.proofs.read_set.read_bodies.Goals as goal

pub returns-in_err-rows-clause-inputs_within : goal.returns-in_err-rows-clause-inputs_within
returns-in_err-rows-clause-inputs_within g c = c.reading_laws.ensures.none_within (g.T.GroundInput.key_of c.args.frame.now) c.args.inputs.now

pub returns-in_err-rows-clause-kept : goal.returns-in_err-rows-clause-kept
returns-in_err-rows-clause-kept g c = c.reading_laws.ensures.none_kept c.args.inputs.now

pub returns-in_err-rows-clause-faults : goal.returns-in_err-rows-clause-faults
returns-in_err-rows-clause-faults g c =
    let told = err_from_is_err_and c.from_residual.result c.from_residual.ensures.1 in
    rw (told.1, told.2) (devices_none g.R.ByteSource.counts g.T.GroundInput.devices c.args.inputs.now (g.P.ProductInputs.inputs c.args.products.now)
    (λ is. let wants = c.in_err-rows.ensures.no_memory in let other : c.in_err-rows.field-0.0 ≡ ReadFailed = cc in cc))

pub returns-in-Err-clause-inputs_within : goal.returns-in-Err-clause-inputs_within
returns-in-Err-clause-inputs_within g c = c.reading_laws.ensures.none_within (g.T.GroundInput.key_of c.args.frame.now) c.args.inputs.now

pub returns-in-Err-clause-kept : goal.returns-in-Err-clause-kept
returns-in-Err-clause-kept g c = c.reading_laws.ensures.none_kept c.args.inputs.now

pub returns-in-Err-clause-faults : goal.returns-in-Err-clause-faults
returns-in-Err-clause-faults g c = devices_none g.R.ByteSource.counts g.T.GroundInput.devices c.args.inputs.now (g.P.ProductInputs.inputs c.args.products.now) (λ is. cc)

pub read_rows-requires-clause-sized : goal.read_rows-requires-clause-sized
read_rows-requires-clause-sized g c = c.reading_laws.ensures.sized c.args.frame.now c.args.inputs.now c.requires.fit

pub read_rows-requires-clause-counted : goal.read_rows-requires-clause-counted
read_rows-requires-clause-counted g c = c.reading_laws.ensures.counted c.args.frame.now c.in_ok-rows.rows.elevations c.in_ok-rows.ensures.begun.elevations

pub returns-clause-answer : goal.returns-clause-answer
returns-clause-answer g c = λ x t means texts given none.
    let listed = subst (IsListingOf (g.T.GroundInput.kind c.args.frame.now) c.in-Ok.listing) (sym given) (subst (λ (k : HeightKind). IsListingOf k c.in-Ok.listing c.args.given.now) c.height_kind.ensures c.in-Ok.ensures) in
    c.read_rows.ensures.answer c.args.headers c.in_ok-rows.ensures.begun c.nodata_of-nodata.ensures c.requires.shapes x t means texts listed none

pub returns-clause-listed : goal.returns-clause-listed
returns-clause-listed g c =
    let listed = subst (λ (k : HeightKind). IsListingOf k c.in-Ok.listing c.args.given.now) c.height_kind.ensures c.in-Ok.ensures in
    IfOk-weaker c.read_rows.result _ _ (λ l same. subst (λ (x : Listing). IsListingOf (g.T.GroundInput.kind c.args.frame.now) x c.args.given.now) (sym same) listed) c.read_rows.ensures.listed

pub returns-clause-noted : goal.returns-clause-noted
returns-clause-noted g c =
    on-ok c.read_rows.result
    (λ noted x t means texts given none.
    let listed = subst (IsListingOf (g.T.GroundInput.kind c.args.frame.now) c.in-Ok.listing) (sym given) (subst (λ (k : HeightKind). IsListingOf k c.in-Ok.listing c.args.given.now) c.height_kind.ensures c.in-Ok.ensures) in
    noted c.args.headers c.in_ok-rows.ensures.begun c.nodata_of-nodata.ensures c.requires.shapes x t means texts listed none)
    c.read_rows.ensures.noted

pub returns-clause-inputs_within : goal.returns-clause-inputs_within
returns-clause-inputs_within g c =
    let read = c.read_rows.ensures.reads in
    c.reading_laws.ensures.within c.args.frame.now (c.in_ok-rows.rows.elevations, c.args.inputs.now) (c.read_rows.new.rows.elevations, c.read_rows.new.inputs) read.reads.elevations_failed
    c.in_ok-rows.ensures.begun.elevations c.requires.fit read.reads.elevations

pub returns-clause-kept : goal.returns-clause-kept
returns-clause-kept g c =
    let read = c.read_rows.ensures.reads in
    c.reading_laws.ensures.kept (c.in_ok-rows.rows.elevations, c.args.inputs.now) (c.read_rows.new.rows.elevations, c.read_rows.new.inputs) read.reads.elevations_failed read.reads.elevations

pub returns-clause-rasters_within : goal.returns-clause-rasters_within
returns-clause-rasters_within g c =
    let read = c.read_rows.ensures.reads in
    let view = as_read g.P.ProductInputs.readers g.P.ProductInputs.inputs in
    bodies_taken g.T.GroundInput.has_read g.R.ByteSource.bytes_left g.R.ByteSource.counts (g.T.GroundInput.begun c.args.frame.now) c.args.headers (view (c.in_ok-rows.rows, c.args.inputs.now, c.args.products.now))
    (view (c.read_rows.new.rows, c.read_rows.new.inputs, c.read_rows.new.products)) read.told c.in_ok-rows.ensures.begun read.reads c.raster_rows_take_what_is_needed.ensures

pub returns-clause-faults : goal.returns-clause-faults
returns-clause-faults g c =
    let read = c.read_rows.ensures.reads in
    let view = as_read g.P.ProductInputs.readers g.P.ProductInputs.inputs in
    devices_fail g.T.GroundInput.has_read g.R.ByteSource.bytes_left g.R.ByteSource.counts (g.T.GroundInput.begun c.args.frame.now) c.args.headers (view (c.in_ok-rows.rows, c.args.inputs.now, c.args.products.now))
    (view (c.read_rows.new.rows, c.read_rows.new.inputs, c.read_rows.new.products)) read.told c.in_ok-rows.ensures.begun read.reads g.T.GroundInput.devices
    (c.reading_laws.ensures.faults c.args.frame.now (c.in_ok-rows.rows.elevations, c.args.inputs.now) (c.read_rows.new.rows.elevations, c.read_rows.new.inputs) read.reads.elevations_failed
    c.in_ok-rows.ensures.begun.elevations c.requires.fit read.reads.elevations) read.exactly
