use Rattle.drain_kernel.proofs.Keys as lemmas
use Rattle.drain_kernel.proofs.laws.lanes_show_numbers.Goals as goal

pub returns : goal.returns
returns c = lemmas.lanes_show_numbers
