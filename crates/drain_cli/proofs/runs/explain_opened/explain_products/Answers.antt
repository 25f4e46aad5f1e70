use Rattle.drain_cli.proofs.Names.{refl, subst, sym, AreFound, AreFoundOf, IsJudgement, IsOutcomeOf, UsesGround, answer_in, AllWithRanks, ForSet, as_five}
use Rattle.drain_cli.proofs.AnswerLemmas.{explained_outcome, found_of}
use Rattle.drain_files.specs.declared.open_judged.JudgedProducts.TheVariants as products
use Rattle.drain_cli.proofs.runs.explain_opened.explain_products.Goals as goal

pub returns-in-Five : goal.returns-in-Five
returns-in-Five g c =
    let explained = c.explain_on in
    let told = c.answer_and_findings in
    let bl = g.R.ByteSource.bytes_left in
    let holds = ForSet g.T.GroundInput.terrain (g.T.GroundInput.encodes c.args.key.now c.args.inputs.now) bl c.args.given.now in
    let uses = UsesGround g.T.GroundInput.devices (g.T.GroundInput.within c.args.key.now) g.T.GroundInput.kept bl g.R.ByteSource.counts c.args.inputs.now explained.new.inputs in
    record {
      answer = subst (λ ps. IsOutcomeOf holds uses ps (products.Five explained.new.products) told.result.0)
          (sym c.in-Five.is)
          (subst (λ a. IsJudgement (holds c.in-Five.five) (uses _ (λ ps. ps) c.in-Five.five explained.new.products) AllWithRanks a) (sym told.ensures.answer)
          (explained_outcome (holds c.in-Five.five) (uses _ (λ ps. ps) c.in-Five.five explained.new.products) AllWithRanks explained.result explained.ensures.answer explained.ensures.uses));
      found = subst (λ ps. AreFoundOf holds ps c.args.given.now c.args.mapping told.result.0 told.result.1)
          (sym c.in-Five.is)
          (subst (λ a. AreFound (holds c.in-Five.five) AllWithRanks c.args.given.now c.args.mapping a told.result.1) (sym told.ensures.answer)
          (subst (λ f. AreFound (holds c.in-Five.five) AllWithRanks c.args.given.now c.args.mapping (answer_in explained.result) f) (sym told.ensures.findings)
          (found_of (holds c.in-Five.five) AllWithRanks c.args.given.now c.args.mapping explained.result
          explained.ensures.explained explained.ensures.endless explained.ensures.drawn explained.ensures.slopes)));
    }

pub returns-in-Four : goal.returns-in-Four
returns-in-Four g c =
    let explained = c.explain_on-in-Four in
    let told = c.answer_and_findings-in-Four in
    let bl = g.R.ByteSource.bytes_left in
    let holds = ForSet g.T.GroundInput.terrain (g.T.GroundInput.encodes c.args.key.now c.args.inputs.now) bl c.args.given.now in
    let uses = UsesGround g.T.GroundInput.devices (g.T.GroundInput.within c.args.key.now) g.T.GroundInput.kept bl g.R.ByteSource.counts c.args.inputs.now explained.new.inputs in
    record {
      answer = subst (λ ps. IsOutcomeOf holds uses ps (products.Four explained.new.products c.in-Four.judged) told.result.0)
          (sym c.in-Four.is) (
            subst (λ a. IsJudgement (holds (as_five c.in-Four.four)) (uses _ as_five c.in-Four.four explained.new.products) c.in-Four.judged a) (sym told.ensures.answer)
                (explained_outcome (holds (as_five c.in-Four.four)) (uses _ as_five c.in-Four.four explained.new.products) c.in-Four.judged explained.result explained.ensures.answer explained.ensures.uses),
            refl,
          );
      found = subst (λ ps. AreFoundOf holds ps c.args.given.now c.args.mapping told.result.0 told.result.1)
          (sym c.in-Four.is)
          (subst (λ a. AreFound (holds (as_five c.in-Four.four)) c.in-Four.judged c.args.given.now c.args.mapping a told.result.1) (sym told.ensures.answer)
          (subst (λ f. AreFound (holds (as_five c.in-Four.four)) c.in-Four.judged c.args.given.now c.args.mapping (answer_in explained.result) f) (sym told.ensures.findings)
          (found_of (holds (as_five c.in-Four.four)) c.in-Four.judged c.args.given.now c.args.mapping explained.result
          explained.ensures.explained explained.ensures.endless explained.ensures.drawn explained.ensures.slopes)));
    }
