-- Where a tile lies (the SRTM HGT documentation).
use Rattle.std.specs.Prelude.{ℕ, ℤ, pos, neg_ℤ, ◌≤ℤ◌, ◌<ℤ◌}
use Rattle.drain_hgt.specs.declared.name.TheConstants.{POLE, HALF_TURN}

-- a tile's south-west corner, in whole degrees to the north and to the east
pub record Corner : Type 0 where
  pub lat : ℤ
  pub lon : ℤ

-- n degrees from zero, and fewer on the positive side, where one degree more is the tile's other edge
pub record IsWithin (limit : ℕ) (x : ℤ) : Type 0 where
  pub low : neg_ℤ (pos limit) ≤ℤ x
  pub high : x <ℤ pos limit

-- from 90 degrees south and 180 degrees west, so that the tile's other corners are on the map
pub record IsOnMap (c : Corner) : Type 0 where
  pub lat : IsWithin POLE c.lat
  pub lon : IsWithin HALF_TURN c.lon
