use Rattle.drain_merge.proofs.Names.{ℕ, ◌<◌, slice_index_or, Place, BothJudgeOne}
use Rattle.drain_merge.proofs.places.first_clash.Given as goal

abbrev pub invariant-loop-later : goal.invariant-loop-later
invariant-loop-later l =
    (i j : ℕ) (d : Place) → i < j → j < l.later → ¬ BothJudgeOne (slice_index_or l.places i d) (slice_index_or l.places j d)
