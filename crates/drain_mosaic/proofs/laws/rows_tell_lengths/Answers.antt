use Rattle.drain_mosaic.proofs.RowValues as lemmas
use Rattle.drain_mosaic.proofs.laws.rows_tell_lengths.Goals as goal

pub returns : goal.returns
returns c = lemmas.rows_tell_lengths
