use Rattle.drain_paths.proofs.Completing.{counts_keep_rules as law}
use Rattle.drain_paths.proofs.laws.counts_keep_rules.Goals as goal

pub returns : goal.returns
returns c = law
