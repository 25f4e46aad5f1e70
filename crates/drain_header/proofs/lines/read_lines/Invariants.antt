use Rattle.drain_header.proofs.Names.{◌+◌, ◌≤◌, length, lines_of, nothing, with_lines}
use Rattle.std.proofs.Common.{◌≡◌}
use Rattle.drain_header.proofs.lines.read_lines.Given as goal

abbrev pub invariant-loop-seen : goal.invariant-loop-seen
invariant-loop-seen l = (with_lines l.kind l.seen l.number (lines_of l.rest) ≡ with_lines l.kind nothing 1 (lines_of l.text)) × (l.number + length l.rest ≤ 65537)

abbrev pub decreases-loop-seen : goal.decreases-loop-seen
decreases-loop-seen l = length l.rest
