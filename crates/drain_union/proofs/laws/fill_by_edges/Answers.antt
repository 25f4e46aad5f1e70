-- The law is a lemma.
use Rattle.drain_union.proofs.FilledPlaces as lemmas
use Rattle.drain_union.proofs.laws.fill_by_edges.Goals as goal

pub returns : goal.returns
returns c = lemmas.fill_by_edges
