use Rattle.drain_header.specs.declared.header.ByteOrdering.TheVariants.{Least, Most}
use Rattle.drain_raster.proofs.PixelLemmas.{float-so}
use Rattle.drain_raster.proofs.read.push_pixels.Goals as goal

pub push_rows-requires-clause-spelled : goal.push_rows-requires-clause-spelled
push_rows-requires-clause-spelled c = float-so c.args.header.now _ Least c.header.view_is c.in-Single-Least.is-0 (c.header.invariant.float_bits c.in-Single-Least.is-0) c.in-Single-Least.is-1

pub push_rows-requires-in-Single-Most-clause-spelled : goal.push_rows-requires-in-Single-Most-clause-spelled
push_rows-requires-in-Single-Most-clause-spelled c = float-so c.args.header.now _ Most c.header.view_is c.in-Single-Most.is-0 (c.header.invariant.float_bits c.in-Single-Most.is-0) c.in-Single-Most.is-1
