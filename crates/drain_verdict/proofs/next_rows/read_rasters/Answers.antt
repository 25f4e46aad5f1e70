use Rattle.drain_verdict.proofs.InputLemmas.{all_read}
use Rattle.drain_verdict.proofs.next_rows.read_rasters.Goals as goal

pub returns-clause-read : goal.returns-clause-read
returns-clause-read g c =
    let con = c.read_raster-told in
    let dir = c.read_raster-told-2 in
    let acc = c.read_raster-told-3 in
    let bas = c.read_raster-told-4 in
    let rnk = c.read_raster in
    all_read g.R.ByteSource.bytes_left g.R.ByteSource.counts c.args.rasters.now _ c.args.products.now
    con.new.body dir.new.body acc.new.body bas.new.body rnk.new.body
    con.result dir.result acc.result bas.result rnk.result
    (record { at_dir = dir.ensures.stays; at_acc = acc.ensures.stays; at_bas = bas.ensures.stays; at_rnk = rnk.ensures.stays })
    con.ensures.read dir.ensures.read acc.ensures.read bas.ensures.read rnk.ensures.read
