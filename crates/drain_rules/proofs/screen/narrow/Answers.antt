use Rattle.drain_rules.proofs.Names.{pos, arith, ext_get_or}
use Rattle.drain_rules.proofs.screen.narrow.Goals as goal

pub returns-clause-same : goal.returns-clause-same
returns-clause-same c = λ all.
    let put = c.loop-place.invariant.put all in
    ext_get_or (pos 0) c.loop-place.out c.args.numbers.now put.long (λ k less. put.same k (omega (arith, less, put.long)))
