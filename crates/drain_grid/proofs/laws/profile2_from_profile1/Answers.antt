use Rattle.drain_grid.proofs.Profiles as lemmas
use Rattle.drain_grid.proofs.laws.profile2_from_profile1.Goals as goal

pub returns : goal.returns
returns c = lemmas.profile2_from_profile1
