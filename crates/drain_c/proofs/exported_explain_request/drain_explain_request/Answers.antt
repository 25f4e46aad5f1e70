use Rattle.drain_c.proofs.Names.{◌≡◌, ◌<◌, IfSome, IsTrue, sym, subst, Explains, OfCall, ReportsMapped, call_of, set_in}
use Rattle.std.proofs.Common.{Some}
use Rattle.drain_c.proofs.Explained.{explains, reports}
use Rattle.drain_c.proofs.exported_explain_request.drain_explain_request.Goals as goal

pub returns-in-Some-clause-answer : goal.returns-in-Some-clause-answer
returns-in-Some-clause-answer c =
    let is : call_of c.args.request.now ≡ Some c.in-Some.call = cc in
    subst (λ o. IfSome o (λ call. IsTrue call.is_whole → OfCall call (λ i. ReportsMapped call.judged (set_in i) c.args.map.now c.show_explained.new.answer))) (sym is)
    (λ whole. reports c.in-Some.call c.explain.result c.args.map.now c.show_explained.new.map c.args.faults.now c.show_explained.new.faults c.show_explained.new.answer
    c.explain.ensures.answer c.explain.ensures.explained c.explain.ensures.drawn c.show_explained.ensures)

pub returns-in-Some-clause-explained : goal.returns-in-Some-clause-explained
returns-in-Some-clause-explained c =
    let is : call_of c.args.request.now ≡ Some c.in-Some.call = cc in
    subst (λ o. IfSome o (λ call. c.show_explained.new.answer.status < 2 → OfCall call (λ i. Explains call.judged (set_in i) c.show_explained.new.faults c.show_explained.new.map))) (sym is)
    (λ below. explains c.in-Some.call c.explain.result c.args.map.now c.show_explained.new.map c.args.faults.now c.show_explained.new.faults c.show_explained.new.answer
    c.explain.ensures.explained c.show_explained.ensures below)
