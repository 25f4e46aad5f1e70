-- The law is a lemma on counts along runs.
use Rattle.drain_grid.proofs.RunsByCounts as lemmas
use Rattle.drain_grid.proofs.laws.runs_end_by_counts.Goals as goal

pub returns : goal.returns
returns c = lemmas.runs_end_by_counts
