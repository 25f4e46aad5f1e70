use Rattle.drain_merge.proofs.Names.{ℕ, ◌<◌, slice_index_or, WindowReport, HaveRowsAlike}
use Rattle.drain_merge.proofs.spacings.first_other_spacing.Given as goal

abbrev pub invariant-loop-later : goal.invariant-loop-later
invariant-loop-later l =
    (i j : ℕ) (d : WindowReport) → i < j → j < l.later → HaveRowsAlike (slice_index_or l.windows i d) (slice_index_or l.windows j d)
