use Rattle.drain_paths.proofs.Names.{subst, sym, lent_back, basin_label, AreNumbers, AreNumbersSoFar, AreFlowsOf}
use Rattle.drain_paths.proofs.LabelLemmas.{AreBasinLabels-all, AreNumbersSoFar-ends}
use Rattle.drain_paths.proofs.basins.label_all.Goals as goal

pub label_runs-requires-clause-so_far : goal.label_runs-requires-clause-so_far
label_runs-requires-clause-so_far t c = λ g ps are.
    (let found = c.in_ok-labels.ensures.labels g ps (subst (AreFlowsOf g ps c.args.shape) c.requires.same are) in
    subst (AreNumbersSoFar g ps c.args.shape 0 basin_label) (sym c.deref_mut.ensures.value)
    (AreNumbersSoFar-ends g ps c.args.shape found.0 c.in_ok-labels.labels.items found.1))

pub returns-clause-labels : goal.returns-clause-labels
returns-clause-labels t c = λ g ps are.
    (let e = c.args.shape in
    let back = lent_back c.deref_mut.ensures.value c.deref_mut.ensures.len c.label_runs.auto.labels in
    AreBasinLabels-all g ps e _ (subst (AreNumbers g ps e 0 basin_label) (sym back) (c.label_runs.ensures g ps are)))
