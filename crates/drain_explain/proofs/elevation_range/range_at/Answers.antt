use Rattle.drain_explain.proofs.Names.{arith, ints}
use Rattle.drain_explain.proofs.Elevations.{alone}
use Rattle.drain_explain.proofs.elevation_range.range_at.Goals as goal

pub returns-in-Some : goal.returns-in-Some
returns-in-Some c = alone _ c.in-Some.z _ _ c.in-Some.is (omega (arith, ints)) (omega (arith, ints))
