-- The law is a lemma.
use Rattle.drain_union.proofs.Unions as lemmas
use Rattle.drain_union.proofs.laws.correct_by_windows.Goals as goal

pub returns : goal.returns
returns c = lemmas.correct_by_windows
