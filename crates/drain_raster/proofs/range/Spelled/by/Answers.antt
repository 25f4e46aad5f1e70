use Rattle.drain_raster.proofs.Names.{true, false, arith, ◌∙◌, ints}
use Rattle.drain_raster.proofs.PixelLemmas.{least-so, greatest-so, widest}
use Rattle.drain_raster.proofs.range.Spelled.by.Goals as goal

pub returns-in_default-true-clause-least : goal.returns-in_default-true-clause-least
returns-in_default-true-clause-least c =
    let arm = c.in_default-true in
    let number = c.from-in_default-true.ensures in
    omega (arith, ints, number) ∙ least-so c.args.header.now _ 32 true c.header.view_is (widest _ c.header.invariant.bits_ok arm.is-0.0.1 arm.is-0.1) arm.is-1

pub returns-in_default-true-clause-greatest : goal.returns-in_default-true-clause-greatest
returns-in_default-true-clause-greatest c =
    let arm = c.in_default-true in
    let number = c.from-in_default-true-2.ensures in
    omega (arith, ints, number) ∙ greatest-so c.args.header.now _ 32 true c.header.view_is (widest _ c.header.invariant.bits_ok arm.is-0.0.1 arm.is-0.1) arm.is-1

pub returns-in_default-false-clause-greatest : goal.returns-in_default-false-clause-greatest
returns-in_default-false-clause-greatest c =
    let arm = c.in_default-false in
    let number = c.from-in_default-false.ensures in
    omega (arith, ints, number) ∙ greatest-so c.args.header.now _ 32 false c.header.view_is (widest _ c.header.invariant.bits_ok arm.is-0.0.1 arm.is-0.1) arm.is-1
