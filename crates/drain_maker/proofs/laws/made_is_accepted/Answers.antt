-- The law rests on what headers and rasters promise of being read back, and on what a verdict rests on.
use Rattle.drain_maker.proofs.Acceptance as lemmas
use Rattle.drain_maker.proofs.laws.made_is_accepted.Goals as goal

pub returns : goal.returns
returns c = lemmas.made_is_accepted c.text_reads_back.ensures c.bytes_read_back.ensures c.numbers_are_pixels.ensures c.equal_grids_have_one_verdict.ensures
