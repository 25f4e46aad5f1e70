-- The law is a lemma on distances.
use Rattle.drain_grid.proofs.Distances as lemmas
use Rattle.drain_grid.proofs.laws.keys_compare_slopes.Goals as goal

pub returns : goal.returns
returns c = lemmas.steeper_across
