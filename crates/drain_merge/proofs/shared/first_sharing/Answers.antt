use Rattle.drain_merge.proofs.SortedOutlets.{first_of_least, first_of_permuted}
use Rattle.drain_merge.proofs.shared.first_sharing.Goals as goal

pub returns : goal.returns
returns c =
    let sorted = c.sort_outlets.new.outlets in
    let found = c.least_sharing.result in
    first_of_permuted c.args.outlets.now sorted found c.sort_outlets.ensures.theirs (first_of_least sorted c.sort_outlets.ensures.order found c.least_sharing.ensures)
