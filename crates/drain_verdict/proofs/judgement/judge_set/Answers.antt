use Rattle.drain_verdict.proofs.Names.{IfOk-weaker, GroundSet, set_grid, set_products}
use Rattle.drain_verdict.proofs.OutcomeLemmas.{flows_left}
use Rattle.drain_verdict.proofs.judgement.judge_set.Goals as goal

pub returns-in-ConDir : goal.returns-in-ConDir
returns-in-ConDir g c =
    let by = c.judge_by-in-ConDir.ensures in
    record {
      answer = by.answer;
      lasting = by.lasting;
      noted = by.noted;
      flows = IfOk-weaker c.judge_by-in-ConDir.result _ _ (λ judgement flows x t means tell.
          let s : GroundSet = record { terrain = g.T.GroundInput.terrain x; texts = t } in
          flows_left c.args.judged (set_grid s) (set_products s) (g.T.GroundInput.extent c.args.frame.now) judgement.flows c.in-ConDir.is (flows x t means tell)) by.flows;
      uses = by.uses;
    }
