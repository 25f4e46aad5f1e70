use Rattle.drain_mosaic.proofs.RowSeams as lemmas
use Rattle.drain_mosaic.proofs.laws.rows_tell_seams.Goals as goal

pub returns : goal.returns
returns c = lemmas.rows_tell_seams
