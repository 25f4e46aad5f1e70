use Rattle.drain_report.proofs.Names.{get_or, pos, w64, to_z-of_z}
use Rattle.drain_report.proofs.ReadLemmas.{long_at}
use Rattle.drain_report.proofs.facts.at.Goals as goal

pub returns : goal.returns
returns c = to_z-of_z w64 (get_or c.args.numbers.now c.args.place (pos 0)) (long_at c.args.numbers.now c.args.place (pos 0) c.requires.long c.requires.inside)
