use Rattle.drain_hgt.proofs.TileEnds as ends
use Rattle.drain_hgt.proofs.laws.tile_rows_tell_lengths.Goals as goal

pub returns : goal.returns
returns c = ends.tile_rows_tell_lengths
