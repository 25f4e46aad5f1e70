use Rattle.drain_mosaic.proofs.MosaicSteps as lemmas
use Rattle.drain_mosaic.proofs.laws.new_rows_are_of_bodies.Goals as goal

pub returns : goal.returns
returns g c = lemmas.new_rows_are_of_bodies g.row.R.Denot g.R.ByteSource.bytes_left
