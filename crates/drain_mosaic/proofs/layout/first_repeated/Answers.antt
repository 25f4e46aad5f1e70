use Rattle.drain_mosaic.proofs.Agreement.{first_found, none_more}
use Rattle.drain_mosaic.proofs.layout.first_repeated.Goals as goal

pub returns-then-contains : goal.returns-then-contains
returns-then-contains c =
    let found = c.if-contains.ensures.cases in
    first_found c.args.names.now c.loop-i.i c.index-names-i.result found.0 c.loop-i-test.true c.index-names-i.is found.1 found.2 c.loop-i.invariant

pub loop-i-preserved : goal.loop-i-preserved
loop-i-preserved c = none_more c.args.names.now c.loop-i.i c.index-names-i.result c.loop-i-test.true c.index-names-i.is c.if-contains.ensures.cases c.loop-i.invariant
