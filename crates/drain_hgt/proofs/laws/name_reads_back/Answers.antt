use Rattle.std.proofs.Common.{refl}
use Rattle.drain_hgt.proofs.laws.name_reads_back.Goals as goal

pub returns : goal.returns
returns c = λ corner on_map. record { on_map = on_map; text = refl }
