use Rattle.drain_verdict.proofs.InputLemmas.{over_err, over_ok}
use Rattle.drain_verdict.proofs.stages.read_headers.Goals as goal

pub returns-clause-headers : goal.returns-clause-headers
returns-clause-headers g c = over_ok c.from_each.result _ _ (λ headers each p. (each p).1.0) c.from_each.ensures.each

pub returns-clause-refusal : goal.returns-clause-refusal
returns-clause-refusal g c =
    over_err c.from_each.result _ _
    (λ e found. record {
      product = found.0;
      refused = found.1.1.1;
      before = λ q less. let right = found.2 q less in (right.0, right.1.1.0);
    })
    c.from_each.ensures.first
