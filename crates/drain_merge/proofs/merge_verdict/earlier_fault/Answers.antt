use Rattle.drain_merge.proofs.Names.{sym, ◌∙◌, false≢true}
use Rattle.drain_merge.proofs.FirstOfFaults.{second_first, first_first}
use Rattle.drain_merge.proofs.merge_verdict.earlier_fault.Goals as goal

pub returns-then-is_before : goal.returns-then-is_before
returns-then-is_before c =
    second_first c.args.first c.args.second c.in-Some.a c.in-Some-second.b c.in-Some.is c.in-Some-second.is (c.is_before.ensures.0 c.if-is_before.true)

pub returns-else-is_before : goal.returns-else-is_before
returns-else-is_before c =
    first_first c.args.first c.args.second c.in-Some.a c.in-Some-second.b c.in-Some.is c.in-Some-second.is
    (λ before. false≢true (sym c.if-is_before.false ∙ c.is_before.ensures.1 before))
