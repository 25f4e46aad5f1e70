-- The law is a lemma.
use Rattle.drain_union.proofs.Unions as lemmas
use Rattle.drain_union.proofs.laws.windows_make_union.Goals as goal

pub returns : goal.returns
returns c = lemmas.windows_make_union
