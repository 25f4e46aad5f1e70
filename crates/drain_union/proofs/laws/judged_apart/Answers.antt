-- The law is a lemma.
use Rattle.drain_union.proofs.ApartPlaces as lemmas
use Rattle.drain_union.proofs.laws.judged_apart.Goals as goal

pub returns : goal.returns
returns c = lemmas.judged_apart
