use Rattle.drain_merge.proofs.Names.{ℤ, rules, arith, answers_always, Cell, Outlet}
use Rattle.drain_merge.proofs.SortedOutlets.{outlet_order}
use Rattle.drain_merge.proofs.shared.sort_outlets.Goals as goal

key : Outlet → ℤ × Cell
key o = (o.label, o.cell)

pub returns-clause-order : goal.returns-clause-order
unfolding key
returns-clause-order c = λ k d below.
    outlet_order _ _ (c.sort_unstable_by_key.ensures.sorted key (answers_always _ _ _ (λ f a r g h. search rules)) k d (omega arith) below)
