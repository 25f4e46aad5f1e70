use Rattle.drain_device.proofs.PartLemmas as coming
use Rattle.drain_device.proofs.laws.rows_come_in_order.Goals as goal

pub returns : goal.returns
returns c = coming.rows_come_in_order
