use Rattle.drain_hgt.proofs.Meanings as meanings
use Rattle.drain_hgt.proofs.laws.one_name.Goals as goal

pub returns : goal.returns
returns c = meanings.one_name
