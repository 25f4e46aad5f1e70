use Rattle.drain_args.proofs.Names.{◌-◌, arith, pow-le-pow_right}
use Rattle.drain_args.proofs.spacing_texts.unit_behind.Goals as goal

pub returns-clause-small : goal.returns-clause-small
returns-clause-small c = omega (arith, c.pow.ensures, pow-le-pow_right {n = 10} (omega arith) {i = 18 - c.args.places} {j = 18} (omega arith))
