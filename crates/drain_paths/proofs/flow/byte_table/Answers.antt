use Rattle.std.proofs.Common.{refl}
use Rattle.drain_paths.proofs.ByteTable.{IsByteTable-listed}
use Rattle.drain_paths.proofs.flow.byte_table.Goals as goal

pub returns : goal.returns
returns c = IsByteTable-listed _ refl
