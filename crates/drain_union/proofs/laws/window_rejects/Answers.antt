-- The law is a lemma.
use Rattle.drain_union.proofs.Unions as lemmas
use Rattle.drain_union.proofs.laws.window_rejects.Goals as goal

pub returns : goal.returns
returns c = lemmas.window_rejects
