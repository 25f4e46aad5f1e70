-- The law is a lemma on the places of cells.
use Rattle.drain_raster.proofs.CellPlaces as lemmas
use Rattle.drain_raster.proofs.laws.numbers_are_pixels.Goals as goal

pub returns : goal.returns
returns c = lemmas.numbers_are_pixels
