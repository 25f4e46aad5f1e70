use Rattle.std.proofs.Common.{arith}
use Rattle.drain_c.proofs.Derivations.{same_numbers}
use Rattle.drain_c.proofs.derived.write_numbers.Goals as goal

pub returns : goal.returns
returns c = same_numbers c.loop-place.numbers c.args.raster.now.numbers (omega (arith, c.requires.counts.pixels.counted)) (λ k less. c.loop-place.invariant k (omega arith))
