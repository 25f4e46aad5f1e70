use Rattle.drain_laws.proofs.PaddedVerdicts as lemmas
use Rattle.drain_laws.proofs.padding_breaks_no_rule.Goals as goal

pub returns : goal.returns
returns c = lemmas.padding_breaks_no_rule
