-- The law is a lemma.
use Rattle.drain_union.proofs.Corners as lemmas
use Rattle.drain_union.proofs.laws.corners_tell_whole.Goals as goal

pub returns : goal.returns
returns c = lemmas.corners_tell_whole
