use Rattle.std.proofs.Common.{ℕ, ◌<◌, ℤ, get_or}
use Rattle.drain_hgt.proofs.Samples.{IsSampleIn}
use Rattle.drain_hgt.proofs.tile_rows.put_samples.Given as goal

-- the samples that were passed are there
abbrev pub invariant-loop-k : goal.invariant-loop-k
invariant-loop-k l = (d : ℤ) (i : ℕ) → i < l.k → IsSampleIn l.bytes i (get_or l.out i d)
