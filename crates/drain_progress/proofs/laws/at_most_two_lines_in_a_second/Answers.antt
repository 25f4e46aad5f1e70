use Rattle.drain_progress.proofs.ThrottleLemmas.{one_when_due, two_with_one_more}
use Rattle.drain_progress.proofs.laws.at_most_two_lines_in_a_second.Goals as goal

pub returns-clause-when_due : goal.returns-clause-when_due
returns-clause-when_due c = one_when_due

pub returns-clause-with_one_more : goal.returns-clause-with_one_more
returns-clause-with_one_more c = two_with_one_more
