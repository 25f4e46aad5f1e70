use Rattle.std.proofs.Common.{arith}
use Rattle.drain_args.proofs.Decimals.{once_more}
use Rattle.drain_args.proofs.spacing_texts.in_least_unit.Goals as goal

pub loop-places-preserved : goal.loop-places-preserved
loop-places-preserved c =
    let l = c.loop-places in
    let inv = l.invariant in (
      omega (arith, inv.0),
      once_more c.args.width l.width_left l.places (omega (arith, c.loop-places-test.true)) inv.0 (omega (arith, c.if-width_left-eq0.true)) inv.1,
      once_more c.args.height l.height_left l.places (omega (arith, c.loop-places-test.true)) inv.0 (omega (arith, c.if-height_left-eq0.true)) inv.2,
    )
