use Rattle.drain_pixels.proofs.Names.{All, subst, sym, IsPixel}
use Rattle.drain_pixels.proofs.GroundLemmas.{each_pixel}
use Rattle.drain_pixels.proofs.ground_row.GroundRow.put_numbers.Goals as goal

pub returns-clause-pixels : goal.returns-clause-pixels
returns-clause-pixels c = λ all. each_pixel c.args.voids c.put_numbers.new.self (subst (All IsPixel) (sym c.put_numbers.ensures) all)
