use Rattle.std.proofs.Common.{◌≡◌, ℕ, ◌<◌, get_or}
use Rattle.std.specs.Char.{to_ascii_uppercase}
use Rattle.drain_header.proofs.line.reads.Given as goal

abbrev pub invariant-loop-at : goal.invariant-loop-at
invariant-loop-at l = (k : ℕ) → k < l.at → to_ascii_uppercase (get_or l.word k 0) ≡ get_or l.text k 0
