use Rattle.drain_verdict.proofs.AuditAnswers.{four_read, no_device}
use Rattle.drain_verdict.proofs.audit_products.AuditProductsProductInputs.read_rasters.Goals as goal

pub returns-clause-read : goal.returns-clause-read
returns-clause-read g c =
    let con = c.read_raster-told in
    let dir = c.read_raster-told-2 in
    let acc = c.read_raster-told-3 in
    let bas = c.read_raster-told-4 in
    let copy = c.copy_row in
    four_read g.R.ByteSource.bytes_left g.R.ByteSource.counts c.args.rasters.now (record { con = con.new.raster; dir = dir.new.raster; acc = acc.new.raster; bas = bas.new.raster; rnk = c.args.rasters.now.rnk }) c.args.self.now
    con.new.body dir.new.body acc.new.body bas.new.body
    con.result dir.result acc.result bas.result copy.result
    (record { at_dir = dir.ensures.stays; at_acc = acc.ensures.stays; at_bas = bas.ensures.stays; at_rnk = copy.ensures.stays })
    (no_device bas.result copy.result copy.ensures.of_memory)
    con.ensures.read dir.ensures.read acc.ensures.read bas.ensures.read
