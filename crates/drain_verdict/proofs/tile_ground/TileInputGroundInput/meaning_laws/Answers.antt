use Rattle.drain_verdict.proofs.TileSteps.{is_tiling, mosaic_starts, tiles_agree, tiles_laid, tiles_none_early, tiles_rows}
use Rattle.drain_verdict.proofs.tile_ground.TileInputGroundInput.meaning_laws.Goals as goal

pub returns : goal.returns
returns g c = record {
  framed = λ f xs x fit means. is_tiling c.one_name.ensures g.R.ByteSource.bytes_left f xs x fit means;
  laid = λ f x framed. tiles_laid f x framed;
  none_early = λ f xs x fit means. tiles_none_early c.one_name.ensures g.R.ByteSource.bytes_left f xs x fit means;
  start = λ f xs x rows means framed begun. mosaic_starts g.R.ByteSource.bytes_left c.new_rows_are_of_bodies.ensures f rows.mosaic xs x means framed begun;
  rows = λ f x framed none. tiles_rows c.tile_row_laws.ensures f x framed none;
  told = λ f x framed whole same. tiles_agree c.agreement_gives_elevation.ensures x same;
}
