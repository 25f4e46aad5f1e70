use Rattle.drain_merge.proofs.Names.{rules, arith, answers_always}
use Rattle.drain_merge.proofs.SortedOutlets.{cell_order}
use Rattle.drain_merge.proofs.seams.sort_shown.Goals as goal

pub returns-clause-order : goal.returns-clause-order
returns-clause-order c = λ k d below.
    cell_order _ _ (c.sort_unstable_by_key.ensures.sorted (λ s. s.cell) (answers_always _ _ _ (λ f a r g h. search rules)) k d (omega arith) below)
