use Rattle.drain_report.proofs.Names.{◌≡◌, ◌++◌, take, spaced}
use Rattle.drain_report.proofs.lines.push_numbers.Given as goal

abbrev pub invariant-loop-number : goal.invariant-loop-number
invariant-loop-number l = l.text.items ≡ l.initial.text.items ++ spaced (take l.number-index l.numbers)
