-- The law rests on the same as that of tiles.
use Rattle.drain_maker.proofs.Acceptance as lemmas
use Rattle.drain_maker.proofs.laws.made_on_dem_is_accepted.Goals as goal

pub returns : goal.returns
returns c = lemmas.made_on_dem_is_accepted c.text_reads_back.ensures c.bytes_read_back.ensures c.numbers_are_pixels.ensures c.equal_grids_have_one_verdict.ensures
