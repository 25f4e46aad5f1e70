use Rattle.drain_raster.proofs.Names.{subst, AreWithinBounds}
use Rattle.drain_raster.specs.declared.fault.WriteFault.{WriteFault}
use Rattle.drain_raster.specs.declared.fault.WriteFault.TheVariants.{OutOfRange}
use Rattle.drain_raster.proofs.LengthLemmas.{raster-some}
use Rattle.drain_raster.proofs.WritingLemmas.{WriteFails-not_begun, nothing-handed}
use Rattle.drain_raster.proofs.write.write_raster.Goals as goal

pub returns-in-Some-clause-bytes : goal.returns-in-Some-clause-bytes
returns-in-Some-clause-bytes g c =
    nothing-handed {E = WriteFault} (g.W.ByteSink.bytes_taken c.args.to.now) (OutOfRange c.in-Some.cell) _ (raster-some c.args.header.now c.args.raster.now (subst AreWithinBounds c.header.view_is c.header.invariant))

pub returns-in-Some-clause-faults : goal.returns-in-Some-clause-faults
returns-in-Some-clause-faults g c = WriteFails-not_begun (g.W.ByteSink.counts c.args.to.now) (g.W.ByteSink.stalls c.args.to.now) _ (λ e. cc)
