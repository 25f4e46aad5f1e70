use Rattle.drain_verdict.proofs.Names.{IfOk-weaker, refl, rules, IsDemHeader, IsDemHeaderRefusal}
use Rattle.drain_verdict.proofs.DemAnswers.{at_first, header_answer, one_header, refused_text}
use Rattle.drain_verdict.proofs.InputLemmas.{over_err, reads_none}
use Rattle.drain_verdict.proofs.dem_ground.RasterInputGroundInput.frame.Goals as goal

pub returns-clause-fit : goal.returns-clause-fit
returns-clause-fit g c = IfOk-weaker c.dem_header.result _ _ (λ header is. one_header header c.args.inputs.now c.index-inputs-0.result (search rules) (at_first (IsDemHeader header) c.args.inputs.now c.index-inputs-0.result c.index-inputs-0.is is)) c.dem_header.ensures.header

pub returns-clause-keyed : goal.returns-clause-keyed
returns-clause-keyed g c = IfOk-weaker c.dem_header.result _ _ (λ header is. refl) c.dem_header.ensures.header

pub returns-clause-refusal : goal.returns-clause-refusal
returns-clause-refusal g c =
    over_err c.dem_header.result _ _ (λ refusal bad x tell t. header_answer x t refusal
    (refused_text g.R.ByteSource.bytes_left c.args.inputs.now c.index-inputs-0.result x refusal tell (at_first (λ text. IsDemHeaderRefusal text refusal) c.args.inputs.now c.index-inputs-0.result c.index-inputs-0.is bad))) c.dem_header.ensures.refusal

pub returns-clause-no_read : goal.returns-clause-no_read
returns-clause-no_read g c = reads_none (IsDemHeaderRefusal _) (λ no. no) c.dem_header.result c.dem_header.ensures.refusal
