use Rattle.drain_maker.proofs.Names.{rules, true, CanSpellIn, at_each_cell}
use Rattle.drain_maker.proofs.narrow.narrow_raster.Goals as goal

pub returns-clause-spelled : goal.returns-clause-spelled
returns-clause-spelled c = at_each_cell (CanSpellIn true 16) c.of_heights.result (search rules) (search rules)
