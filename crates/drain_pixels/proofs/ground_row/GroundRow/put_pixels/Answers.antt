use Rattle.drain_pixels.proofs.GroundLemmas.{each_pixel}
use Rattle.drain_pixels.proofs.ground_row.GroundRow.put_pixels.Goals as goal

pub returns-clause-pixels : goal.returns-clause-pixels
returns-clause-pixels c = λ all. each_pixel c.args.voids c.args.pixels all
