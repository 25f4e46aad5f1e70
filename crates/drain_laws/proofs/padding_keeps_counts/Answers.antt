use Rattle.drain_laws.proofs.PaddedVerdicts as lemmas
use Rattle.drain_laws.proofs.padding_keeps_counts.Goals as goal

pub returns : goal.returns
returns c = lemmas.padding_keeps_counts
