use Rattle.drain_kernel.proofs.Names.{and_parts, leb-true, Decides-eqb}
use Rattle.drain_kernel.proofs.CappedSums.{middle_sum_gives}
use Rattle.drain_kernel.proofs.sums.adds_up_by_middle.Goals as goal

pub returns : goal.returns
returns c = λ h.
    let parts = and_parts _ _ h in
    middle_sum_gives c.args.acc _ _ _ _ _ _ _ _ c.args.codes c.args.accs c.middle_passed_on.ensures c.middle_passed_on-2.ensures c.middle_passed_on-3.ensures
    c.middle_passed_on-4.ensures c.middle_passed_on-5.ensures c.middle_passed_on-6.ensures c.middle_passed_on-7.ensures c.middle_passed_on-8.ensures
    (leb-true _ _ parts.0) ((Decides-eqb _ _).0 parts.1)
