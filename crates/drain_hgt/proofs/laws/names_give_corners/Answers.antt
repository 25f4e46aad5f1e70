use Rattle.drain_hgt.proofs.Corners as corners
use Rattle.drain_hgt.proofs.laws.names_give_corners.Goals as goal

pub returns : goal.returns
returns c = corners.names_give_corners
