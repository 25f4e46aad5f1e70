use Rattle.drain_args.proofs.Names.{rules, tests, is_side_letter}
use Rattle.std.proofs.lemmas.Iterator.{YieldsList-from_slice}
use Rattle.std.proofs.lemmas.Iterator.Search.{all_from_yields_List}
use Rattle.drain_args.proofs.place_texts.are_side_letters.Goals as goal

pub returns : goal.returns
returns c = all_from_yields_List is_side_letter _ _ c.all.result c.all.ensures.ran (YieldsList-from_slice c.args.letters.now cc) (λ x b q k. search (rules, tests))
