use Rattle.drain_verdict.proofs.TileSteps.{length_none, length_some}
use Rattle.drain_verdict.proofs.tile_ground.TileInputGroundInput.refusal_of_length.Goals as goal

pub returns-in-Some-clause-told : goal.returns-in-Some-clause-told
returns-in-Some-clause-told g c = λ x tiles framed after.
    length_some g.R.ByteSource.bytes_left c.tile_row_laws.ensures c.args.layout.now c.args.rows.now.mosaic tiles x framed after c.wrong_length.result c.wrong_length.ensures.told c.in-Some.place c.name.result c.in-Some.is c.name.ensures

pub returns-in-None-clause-told : goal.returns-in-None-clause-told
returns-in-None-clause-told g c = λ x tiles framed after.
    length_none g.R.ByteSource.bytes_left c.tile_row_laws.ensures c.args.layout.now c.args.rows.now.mosaic tiles x framed after c.wrong_length.result c.wrong_length.ensures.told c.in-None.is
