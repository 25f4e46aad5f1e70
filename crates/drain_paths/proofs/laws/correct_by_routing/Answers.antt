use Rattle.drain_paths.proofs.Completing.{correct_by_routing as law}
use Rattle.drain_paths.proofs.laws.correct_by_routing.Goals as goal

pub returns : goal.returns
returns c = law
