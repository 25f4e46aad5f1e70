use Rattle.drain_c.proofs.Names.{rules, tests, is_tile_whole}
use Rattle.std.proofs.lemmas.Iterator.{YieldsList-from_slice}
use Rattle.std.proofs.lemmas.Iterator.Search.{all_from_yields_List}
use Rattle.drain_c.proofs.whole.are_tiles_whole.Goals as goal

pub returns : goal.returns
returns c = all_from_yields_List is_tile_whole _ _ c.all.result c.all.ensures.ran (YieldsList-from_slice c.args.tiles.now cc) (λ x b q k. search (rules, tests))
