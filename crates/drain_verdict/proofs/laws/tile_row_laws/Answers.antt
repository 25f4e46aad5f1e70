use Rattle.drain_verdict.proofs.laws.tile_row_laws.Goals as goal

pub returns : goal.returns
returns c = record {
  rows_end = c.rows_end.ensures;
  rows_whole = c.rows_are_whole.ensures;
  first_values = c.rows_are_first_values.ensures;
  seams = c.rows_tell_seams.ensures;
  lengths = c.rows_tell_lengths.ensures;
  samples = c.whole_tiles_give_their_samples.ensures;
}
