use Rattle.drain_verdict.proofs.TileSteps.{seam_none, seam_some}
use Rattle.drain_verdict.proofs.tile_ground.TileInputGroundInput.refusal_of_values.Goals as goal

pub returns-in-Some-clause-told : goal.returns-in-Some-clause-told
returns-in-Some-clause-told g c = λ x tiles framed after whole.
    seam_some g.R.ByteSource.bytes_left c.tile_row_laws.ensures c.args._layout.now c.args.rows.now.mosaic tiles x framed after whole c.seam.result c.seam.ensures c.in-Some.cell c.in-Some.is

pub returns-in-None-clause-told : goal.returns-in-None-clause-told
returns-in-None-clause-told g c = λ x tiles framed after whole.
    seam_none g.R.ByteSource.bytes_left c.tile_row_laws.ensures c.args._layout.now c.args.rows.now.mosaic tiles x framed after whole c.seam.result c.seam.ensures c.in-None.is
