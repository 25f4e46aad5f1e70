use Rattle.drain_header.specs.declared.header.ByteOrdering.TheVariants.{Least, Most}
use Rattle.drain_raster.proofs.PixelLemmas.{written-float}
use Rattle.drain_raster.proofs.write.write_body.Goals as goal

pub write_rows-requires-clause-written : goal.write_rows-requires-clause-written
write_rows-requires-clause-written g c = written-float c.args.header.now _ Least c.header.view_is c.in-Single-Least.is-0 (c.header.invariant.float_bits c.in-Single-Least.is-0) (c.header.invariant.float_signed c.in-Single-Least.is-0) c.in-Single-Least.is-1

pub write_rows-requires-in-Single-Most-clause-written : goal.write_rows-requires-in-Single-Most-clause-written
write_rows-requires-in-Single-Most-clause-written g c = written-float c.args.header.now _ Most c.header.view_is c.in-Single-Most.is-0 (c.header.invariant.float_bits c.in-Single-Most.is-0) (c.header.invariant.float_signed c.in-Single-Most.is-0) c.in-Single-Most.is-1
