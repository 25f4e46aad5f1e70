use Rattle.drain_paths.proofs.Rings.{reported-endless}
use Rattle.drain_paths.proofs.laws.endless_paths_do_not_end.Goals as goal

pub returns : goal.returns
returns c = reported-endless
