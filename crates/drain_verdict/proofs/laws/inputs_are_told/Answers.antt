use Rattle.drain_verdict.proofs.InputLemmas as telling
use Rattle.drain_verdict.proofs.laws.inputs_are_told.Goals as goal

pub returns : goal.returns
returns g c = telling.inputs_are_told c.names_give_corners.ensures g.R.ByteSource.bytes_left
