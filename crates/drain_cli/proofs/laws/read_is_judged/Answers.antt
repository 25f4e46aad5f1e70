-- The law is a lemma.
use Rattle.drain_cli.proofs.ReadReports as lemmas
use Rattle.drain_cli.proofs.laws.read_is_judged.Goals as goal

pub returns : goal.returns
returns c = lemmas.read_is_judged c.four_numbers.ensures
