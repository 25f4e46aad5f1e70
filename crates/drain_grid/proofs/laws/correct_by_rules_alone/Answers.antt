-- The law is a lemma on what audits rest on.
use Rattle.drain_grid.proofs.Exactly as lemmas
use Rattle.drain_grid.proofs.laws.correct_by_rules_alone.Goals as goal

pub returns : goal.returns
returns c = lemmas.correct_by_rules_alone
