use Rattle.drain_c.proofs.Names.{◌≡◌, ◌<◌, ◌↔◌, false, IfSome, IsTrue, sym, subst, AreOfCall, AreRightIn, IsAcceptedOutcome, IsElevationTold, OfCall, ProductsAreRight, call_of, has_rnk, outcome_found, set_in}
use Rattle.std.proofs.Common.{Some}
use Rattle.drain_c.proofs.Statuses.{at_zero, below_two, exactly, from_two, outcome_statuses}
use Rattle.drain_c.proofs.exported_judge.drain_judge.Goals as goal

pub returns-in-Some-clause-elevation : goal.returns-in-Some-clause-elevation
returns-in-Some-clause-elevation c =
    let is : call_of c.args.request.now ≡ Some c.in-Some.call = cc in
    subst (λ o. IfSome o (λ call. c.show_outcome.new.answer.status < 2 → OfCall call IsElevationTold)) (sym is)
    (λ below. below_two outcome_found from_two c.judge.result c.show_outcome.new.answer.status c.show_outcome.ensures.status_is below c.judge.ensures.elevation)

pub returns-in-Some-clause-exactly : goal.returns-in-Some-clause-exactly
returns-in-Some-clause-exactly c =
    let is : call_of c.args.request.now ≡ Some c.in-Some.call = cc in
    subst (λ o. IfSome o (λ call. has_rnk call.judged ≡ false → c.show_outcome.new.answer.status < 2 → OfCall call (λ i. (c.show_outcome.new.answer.status ≡ 0) ↔ AreRightIn call.judged (set_in i)))) (sym is)
    (λ unranked below. exactly outcome_found IsAcceptedOutcome outcome_statuses (AreOfCall c.in-Some.call) (λ i. AreRightIn c.in-Some.call.judged (set_in i))
    c.judge.result c.show_outcome.new.answer.status c.show_outcome.ensures.status_is below (c.judge.ensures.exactly unranked))

pub returns-in-Some-clause-right : goal.returns-in-Some-clause-right
returns-in-Some-clause-right c =
    let is : call_of c.args.request.now ≡ Some c.in-Some.call = cc in
    subst (λ o. IfSome o (λ call. IsTrue (has_rnk call.judged) → c.show_outcome.new.answer.status ≡ 0 → OfCall call (λ i. ProductsAreRight (set_in i)))) (sym is)
    (λ ranked zero. at_zero c.judge.result c.show_outcome.new.answer.status c.show_outcome.ensures.status_is zero (c.judge.ensures.right ranked))
