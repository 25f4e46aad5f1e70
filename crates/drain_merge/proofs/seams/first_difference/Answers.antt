use Rattle.drain_merge.proofs.Names.{slice_index_or, sym, subst, Some, None, IsFirstDifference}
use Rattle.drain_merge.proofs.SortedSeams.{none_differ, first_differs, difference_of_permuted}
use Rattle.drain_merge.proofs.seams.first_difference.Goals as goal

pub returns-in_err-place : goal.returns-in_err-place
returns-in_err-place c =
    let sorted = c.sort_shown.new.seams in
    record {
      first = subst (IsFirstDifference c.args.seams.now) (sym c.from_residual.ensures)
          (difference_of_permuted c.args.seams.now sorted None c.sort_shown.ensures.theirs (none_differ sorted c.sort_shown.ensures.order c.in_err-place.ensures));
      theirs = c.sort_shown.ensures.theirs;
    }

pub returns : goal.returns
returns c =
    let sorted = c.sort_shown.new.seams in
    record {
      first =
          difference_of_permuted c.args.seams.now sorted (Some (slice_index_or sorted c.in_ok-place.place c.index-seams-place.result).cell) c.sort_shown.ensures.theirs
          (first_differs sorted c.sort_shown.ensures.order c.in_ok-place.place c.index-seams-place.result c.in_ok-place.ensures);
      theirs = c.sort_shown.ensures.theirs;
    }
