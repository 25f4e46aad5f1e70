use Rattle.drain_kernel.proofs.Counting as lemmas
use Rattle.drain_kernel.proofs.laws.raised_are_counted.Goals as goal

pub returns : goal.returns
returns c = lemmas.raised_are_counted
