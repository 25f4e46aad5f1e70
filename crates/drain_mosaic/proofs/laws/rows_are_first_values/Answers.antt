use Rattle.drain_mosaic.proofs.RowValues as lemmas
use Rattle.drain_mosaic.proofs.laws.rows_are_first_values.Goals as goal

pub returns : goal.returns
returns c = lemmas.rows_are_first_values
