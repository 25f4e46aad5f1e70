use Rattle.drain_header.specs.declared.header.ByteOrdering.TheVariants.{Least, Most}
use Rattle.drain_raster.proofs.PixelLemmas.{float-so}
use Rattle.drain_raster.proofs.number_rows.read_pixels.Goals as goal

pub read_numbers-requires-clause-spelled : goal.read_numbers-requires-clause-spelled
read_numbers-requires-clause-spelled g c = float-so c.args.header.now _ Least c.header.view_is c.in-Single-Least.is-0 (c.header.invariant.float_bits c.in-Single-Least.is-0) c.in-Single-Least.is-1

pub read_numbers-requires-in-Single-Most-clause-spelled : goal.read_numbers-requires-in-Single-Most-clause-spelled
read_numbers-requires-in-Single-Most-clause-spelled g c = float-so c.args.header.now _ Most c.header.view_is c.in-Single-Most.is-0 (c.header.invariant.float_bits c.in-Single-Most.is-0) c.in-Single-Most.is-1
