use Rattle.drain_raster.proofs.Names.{true, false, Whole, Least, Most}
use Rattle.drain_raster.proofs.PixelLemmas.{kind-so, written-so, widest}
use Rattle.drain_raster.proofs.write.write_whole.Goals as goal

pub write_rows-requires-in_default-true-Least-clause-written : goal.write_rows-requires-in_default-true-Least-clause-written
write_rows-requires-in_default-true-Least-clause-written g c =
    let arm = c.in_default-true-Least in
    written-so c.args.header.now _ 32 true Least c.header.view_is (kind-so _ _ Whole c.header.view_is c.requires.kind) (widest _ c.header.invariant.bits_ok arm.is-0.0.1 arm.is-0.1) arm.is-1 arm.is-2

pub write_rows-requires-in_default-true-Most-clause-written : goal.write_rows-requires-in_default-true-Most-clause-written
write_rows-requires-in_default-true-Most-clause-written g c =
    let arm = c.in_default-true-Most in
    written-so c.args.header.now _ 32 true Most c.header.view_is (kind-so _ _ Whole c.header.view_is c.requires.kind) (widest _ c.header.invariant.bits_ok arm.is-0.0.1 arm.is-0.1) arm.is-1 arm.is-2

pub write_rows-requires-in_default-false-Least-clause-written : goal.write_rows-requires-in_default-false-Least-clause-written
write_rows-requires-in_default-false-Least-clause-written g c =
    let arm = c.in_default-false-Least in
    written-so c.args.header.now _ 32 false Least c.header.view_is (kind-so _ _ Whole c.header.view_is c.requires.kind) (widest _ c.header.invariant.bits_ok arm.is-0.0.1 arm.is-0.1) arm.is-1 arm.is-2

pub write_rows-requires-in_default-false-Most-clause-written : goal.write_rows-requires-in_default-false-Most-clause-written
write_rows-requires-in_default-false-Most-clause-written g c =
    let arm = c.in_default-false-Most in
    written-so c.args.header.now _ 32 false Most c.header.view_is (kind-so _ _ Whole c.header.view_is c.requires.kind) (widest _ c.header.invariant.bits_ok arm.is-0.0.1 arm.is-0.1) arm.is-1 arm.is-2
