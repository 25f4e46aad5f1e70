use Rattle.std.proofs.Common.{◌<◌, ℕ, get_or}
use Rattle.drain_raster.proofs.range.look_at_counts.Given as goal

-- those that were passed are
abbrev pub invariant-loop-k : goal.invariant-loop-k
invariant-loop-k l = (i d : ℕ) → i < l.k → get_or l.fn.numbers i d < 4294967296
