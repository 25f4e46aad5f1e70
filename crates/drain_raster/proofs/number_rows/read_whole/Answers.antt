use Rattle.drain_raster.proofs.Names.{true, false, Whole, Least, Most}
use Rattle.drain_raster.proofs.PixelLemmas.{kind-so, spelled-so, spelled-byte, widest}
use Rattle.drain_raster.proofs.number_rows.read_whole.Goals as goal

pub read_numbers-requires-clause-spelled : goal.read_numbers-requires-clause-spelled
read_numbers-requires-clause-spelled g c = spelled-byte c.args.header.now _ true c.header.view_is (kind-so _ _ Whole c.header.view_is c.requires.kind) c.in-8-true-default.is-0 c.in-8-true-default.is-1

pub read_numbers-requires-in-16-true-Least-clause-spelled : goal.read_numbers-requires-in-16-true-Least-clause-spelled
read_numbers-requires-in-16-true-Least-clause-spelled g c = spelled-so c.args.header.now _ 16 true Least c.header.view_is (kind-so _ _ Whole c.header.view_is c.requires.kind) c.in-16-true-Least.is-0 c.in-16-true-Least.is-1 c.in-16-true-Least.is-2

pub read_numbers-requires-in-16-true-Most-clause-spelled : goal.read_numbers-requires-in-16-true-Most-clause-spelled
read_numbers-requires-in-16-true-Most-clause-spelled g c = spelled-so c.args.header.now _ 16 true Most c.header.view_is (kind-so _ _ Whole c.header.view_is c.requires.kind) c.in-16-true-Most.is-0 c.in-16-true-Most.is-1 c.in-16-true-Most.is-2

pub read_numbers-requires-in_default-true-Least-clause-spelled : goal.read_numbers-requires-in_default-true-Least-clause-spelled
read_numbers-requires-in_default-true-Least-clause-spelled g c =
    let arm = c.in_default-true-Least in
    spelled-so c.args.header.now _ 32 true Least c.header.view_is (kind-so _ _ Whole c.header.view_is c.requires.kind) (widest _ c.header.invariant.bits_ok arm.is-0.0.1 arm.is-0.1) arm.is-1 arm.is-2

pub read_numbers-requires-in_default-true-Most-clause-spelled : goal.read_numbers-requires-in_default-true-Most-clause-spelled
read_numbers-requires-in_default-true-Most-clause-spelled g c =
    let arm = c.in_default-true-Most in
    spelled-so c.args.header.now _ 32 true Most c.header.view_is (kind-so _ _ Whole c.header.view_is c.requires.kind) (widest _ c.header.invariant.bits_ok arm.is-0.0.1 arm.is-0.1) arm.is-1 arm.is-2

pub read_numbers-requires-in_default-false-Least-clause-spelled : goal.read_numbers-requires-in_default-false-Least-clause-spelled
read_numbers-requires-in_default-false-Least-clause-spelled g c =
    let arm = c.in_default-false-Least in
    spelled-so c.args.header.now _ 32 false Least c.header.view_is (kind-so _ _ Whole c.header.view_is c.requires.kind) (widest _ c.header.invariant.bits_ok arm.is-0.0.1 arm.is-0.1) arm.is-1 arm.is-2

pub read_numbers-requires-in_default-false-Most-clause-spelled : goal.read_numbers-requires-in_default-false-Most-clause-spelled
read_numbers-requires-in_default-false-Most-clause-spelled g c =
    let arm = c.in_default-false-Most in
    spelled-so c.args.header.now _ 32 false Most c.header.view_is (kind-so _ _ Whole c.header.view_is c.requires.kind) (widest _ c.header.invariant.bits_ok arm.is-0.0.1 arm.is-0.1) arm.is-1 arm.is-2
