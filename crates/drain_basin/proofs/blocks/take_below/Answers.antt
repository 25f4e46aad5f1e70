use Rattle.drain_basin.proofs.Trees.{none_below}
use Rattle.drain_basin.proofs.blocks.take_below.Goals as goal

pub returns-then-block-words-clause-none : goal.returns-then-block-words-clause-none
returns-then-block-words-clause-none c q below =
    none_below c.args.high.now.entries c.in_ok-block.block.now c.args.words q c.if-block-words.true (c.in_ok-block.ensures.least q) below
