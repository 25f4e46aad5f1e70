-- The law is a lemma on equal grids.
use Rattle.drain_rules.proofs.EqualGrids as lemmas
use Rattle.drain_rules.proofs.laws.equal_grids_have_one_verdict.Goals as goal

pub returns : goal.returns
returns c = lemmas.equal_grids_have_one_verdict
