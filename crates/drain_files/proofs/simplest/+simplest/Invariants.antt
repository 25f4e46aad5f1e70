use Rattle.std.proofs.Common.{◌+◌}
use Rattle.drain_files.proofs.simplest.+simplest.Given as goal

-- Euclid's steps: both heights fall
abbrev pub decreases-simplest : goal.decreases-simplest
decreases-simplest l = l.low.height + l.high.height
