use Rattle.drain_merge.proofs.Names.{Some, None, List, refl, subst, Shown, IsFirstDifference}
use Rattle.drain_merge.proofs.joined.agreed_seams.Goals as goal

pub returns-in-Some-clause-refusal : goal.returns-in-Some-clause-refusal
returns-in-Some-clause-refusal c =
    (c.in-Some.cell, refl, subst (λ (xs : List Shown). IsFirstDifference xs (Some c.in-Some.cell)) c.as_mut_slice.ensures.value c.in-Some.ensures.first)

pub returns-in-None-clause-agree : goal.returns-in-None-clause-agree
returns-in-None-clause-agree c =
    subst (λ (xs : List Shown). IsFirstDifference xs None) c.as_mut_slice.ensures.value c.in-None.ensures.first
