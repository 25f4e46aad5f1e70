use Rattle.std.proofs.Common.{inr, refl}
use Rattle.drain_sets.proofs.FileWrites.{no_memory, text-some}
use Rattle.drain_sets.specs.Missing.{map_header}
use Rattle.drain_files.proofs.map_file.write_map.Goals as goal

pub returns-in_default : goal.returns-in_default
returns-in_default g c = inr (refl, (no_memory g.F.ByteSink c.args.header.now _ (text-some (map_header c.args.like.now)), refl))
