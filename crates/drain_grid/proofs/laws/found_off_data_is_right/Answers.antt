use Rattle.drain_grid.proofs.SinkFaults as lines
use Rattle.drain_grid.proofs.laws.found_off_data_is_right.Goals as goal

pub returns : goal.returns
returns c = lines.found_off_data_is_right
