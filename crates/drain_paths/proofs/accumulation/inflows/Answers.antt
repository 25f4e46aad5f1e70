use Rattle.drain_paths.proofs.Names.{sym, subst, AreInflows, lent_back}
use Rattle.drain_paths.proofs.accumulation.inflows.Goals as goal

pub returns-clause-inflows : goal.returns-clause-inflows
returns-clause-inflows t c = λ g ps are.
    subst (AreInflows g ps c.args.shape)
    (sym (lent_back c.as_mut_slice-4.ensures.value c.as_mut_slice-4.ensures.len c.count_rows.ensures.waits_counted)) (c.count_rows.ensures.inflows g ps are)
