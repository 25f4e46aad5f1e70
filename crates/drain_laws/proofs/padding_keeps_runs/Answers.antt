use Rattle.drain_laws.proofs.PaddedRuns as lemmas
use Rattle.drain_laws.proofs.padding_keeps_runs.Goals as goal

pub returns : goal.returns
returns c = lemmas.padding_keeps_runs
