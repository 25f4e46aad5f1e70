use Rattle.drain_header.proofs.Names.{length, lines_of, kind_said}
use Rattle.std.proofs.Common.{◌≡◌}
use Rattle.drain_header.proofs.kind.kind_said.Given as goal

-- the lines up to here have no pixel type
abbrev pub invariant-loop-after : goal.invariant-loop-after
invariant-loop-after l = kind_said (lines_of l.rest) ≡ kind_said (lines_of l.text)

abbrev pub decreases-loop-after : goal.decreases-loop-after
decreases-loop-after l = length l.rest
