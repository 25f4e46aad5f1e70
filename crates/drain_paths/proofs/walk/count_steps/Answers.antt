use Rattle.drain_paths.proofs.Names.{subst, sym, lent_back, run_steps, UNKNOWN, AreNumbers, AreNumbersSoFar}
use Rattle.drain_paths.proofs.StepLemmas.{AreNumbersSoFar-first}
use Rattle.drain_paths.proofs.walk.count_steps.Goals as goal

pub number_paths-requires-clause-so_far : goal.number_paths-requires-clause-so_far
number_paths-requires-clause-so_far c = λ g ps are.
    subst (AreNumbersSoFar g ps c.args.shape UNKNOWN run_steps) (sym c.deref_mut.ensures.value)
    (AreNumbersSoFar-first g ps c.args.shape c.args.flows.now c.in-Ok.steps.items are c.requires.counted c.in-Ok.ensures)

pub returns-in-None-clause-steps : goal.returns-in-None-clause-steps
returns-in-None-clause-steps c = λ g ps are.
    (let back = lent_back c.deref_mut.ensures.value c.deref_mut.ensures.len c.number_paths.auto.numbers in
    subst (AreNumbers g ps c.args.shape UNKNOWN run_steps) (sym back) (c.in-None.ensures g ps are))
