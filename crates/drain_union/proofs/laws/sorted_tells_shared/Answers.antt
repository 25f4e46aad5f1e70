-- The law is a lemma.
use Rattle.drain_union.proofs.Merges as lemmas
use Rattle.drain_union.proofs.laws.sorted_tells_shared.Goals as goal

pub returns : goal.returns
returns c = lemmas.sorted_tells_shared
