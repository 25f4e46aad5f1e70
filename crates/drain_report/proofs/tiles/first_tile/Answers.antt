use Rattle.drain_report.proofs.Names.{◌∷◌, ◌++◌, ◌∙◌, name_of}
use Rattle.drain_report.proofs.ListLemmas.{tile_split}
use Rattle.drain_report.proofs.tiles.first_tile.Goals as goal

pub returns-in_default-clause-back : goal.returns-in_default-clause-back
returns-in_default-clause-back c = λ tile rest on_map is. c.in_default.ensures.back (name_of tile ++ 10 ∷ rest) (is ∙ tile_split tile rest)

pub returns-in_default-first_name-clause-back : goal.returns-in_default-first_name-clause-back
returns-in_default-first_name-clause-back c = λ tile rest on_map is.
    let after = c.in-Some.ensures.back (name_of tile ++ 10 ∷ rest) (is ∙ tile_split tile rest) in
    c.in_default-first_name.ensures.back tile (10 ∷ rest) on_map after
